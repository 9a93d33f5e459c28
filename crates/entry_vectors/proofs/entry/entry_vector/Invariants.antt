use Rattle.std.proofs.Common.{◌≡◌, map, length, replicate}
use Rattle.std.specs.List.{fold}
use Rattle.automaton.specs.Tables.{entry_of}
use Rattle.field.specs.Algebra.{ops}
use Rattle.field.specs.Codes.{AllBelow}
use Rattle.rules.specs.Rules.{rule_model}
use Rattle.vectors.specs.Tables.{vectors_of}
use Rattle.entry_vectors.proofs.Sums.{led}
use Rattle.entry_vectors.proofs.entry.entry_vector.Given as goal

abbrev pub invariant-loop-rule : goal.invariant-loop-rule
invariant-loop-rule g l =
    let A = g.F.Field.model l.f in
    record {
      sums : l.vector ≡ fold (λ v r. led (ops A) (vectors_of l.earlier) (entry_of l.e) (rule_model r) v) (replicate 12 0) (map (λ r. r.now) l.yielded);
      codes : AllBelow A.size l.vector;
      long : length l.vector ≡ 12;
    }
