use Rattle.std.proofs.Common.{◌≡◌, map, take}
use Rattle.field.specs.Algebra.{ops}
use Rattle.automaton.specs.Tables.{automaton_of, entry_of}
use Rattle.equivalence.specs.Valuing as valuing
use Rattle.vectors.specs.Tables.{vectors_of}
use Rattle.weighing.proofs.weigh.Given as goal

abbrev pub invariant-loop-e : goal.invariant-loop-e
invariant-loop-e g l =
    record {
      vectors : vectors_of l.valuation.vectors ≡ valuing.vectors_of (ops (g.F.Field.model l.f)) (automaton_of l.m) (map entry_of (take l.e-index l.entries));
      field : l.valuation.field.now ≡ l.f;
      automaton : l.valuation.automaton.now ≡ l.m;
    }
