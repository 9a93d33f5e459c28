use Rattle.std.proofs.Common.{◌≤◌, [], ◌∷◌, ◌++◌, length, ap, ap₂, ◌∙◌, arith}
use Rattle.std.proofs.ByRecursion.{All-weaker}
use Rattle.field.specs.Algebra.{ops}
use Rattle.field.specs.Ops.{dot}
use Rattle.automaton.specs.Tables.{automaton_of, entry_of}
use Rattle.equivalence.specs.Valuing.{entry_vector, last_or}
use Rattle.equivalence.proofs.Valuing.{children_earlier}
use Rattle.vectors.specs.Tables.{vectors_of}
use Rattle.weighing.proofs.Entries.{laid_at, length_first, value_all, vectors_more}
use Rattle.weighing.proofs.weigh.Goals as goal

pub push-requires : goal.push-requires
push-requires g c =
    let o = ops (g.F.Field.model c.args.f.now) in
    let vs = vectors_of c.loop-e.valuation.vectors in
    let xs = c.args.entries.now in
    let i = c.loop-e.e-index in
    let x = c.e-item in
    let ranks = c.requires.stands.0 in
    let count = length_first o (automaton_of c.args.m.now) entry_of xs i vs (omega arith) c.loop-e.invariant.vectors in
    let laid = laid_at entry_of ranks 0 i xs i x.result c.requires.stands.1.entries (omega arith) x.is (omega arith) in
    record {
      room = omega (arith, count, c.requires.few);
      earlier = All-weaker _ (λ k. k ≤ length vs) (λ k h. omega arith) x.result.children (children_earlier ranks i (entry_of x.result) laid);
    }

pub loop-e-preserved : goal.loop-e-preserved
loop-e-preserved g c =
    let old = vectors_of c.loop-e.valuation.vectors in
    let x = c.e-item in
    let field = ap (λ f. ops (g.F.Field.model f)) c.loop-e.invariant.field in
    let pushed = c.push.ensures.vectors ∙ ap₂ (λ o M. old ++ (entry_vector o M old (entry_of x.result) ∷ [])) field (ap automaton_of c.loop-e.invariant.automaton) in
    record {
      vectors = vectors_more (ops (g.F.Field.model c.args.f.now)) (automaton_of c.args.m.now) entry_of c.args.entries.now c.loop-e.e-index x.result old _ (omega arith) x.is c.loop-e.invariant.vectors pushed;
      field = c.push.ensures.field ∙ c.loop-e.invariant.field;
      automaton = c.push.ensures.automaton ∙ c.loop-e.invariant.automaton;
    }

pub returns-clause-value : goal.returns-clause-value
returns-clause-value g c =
    let vs = vectors_of c.loop-e.valuation.vectors in
    let stands = c.requires.stands in
    let field = ap (λ f. ops (g.F.Field.model f)) c.loop-e.invariant.field in
    let sum = c.value.ensures.value ∙ ap₂ (λ o M. dot o M.finals (last_or [] vs)) field (ap automaton_of c.loop-e.invariant.automaton) in
    value_all (g.F.Field.model c.args.f.now) (automaton_of c.args.m.now) stands.0 entry_of c.args.entries.now c.loop-e.e-index
    c.value.result vs c.requires.sound stands.1 (omega arith) c.loop-e.invariant.vectors sum
