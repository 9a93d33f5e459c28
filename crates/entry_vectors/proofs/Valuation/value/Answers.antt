use Rattle.entry_vectors.proofs.Products.{code_below}
use Rattle.std.proofs.Common.{ℕ, get_or, rules, ◌<◌, ◌-◌, ◌∙◌, [], length, ap, arith, sym, subst}
use Rattle.std.proofs.ByRecursion.{All-get_or}
use Rattle.std.proofs.lemmas.Iterator.{YieldsList-from_zip}
use Rattle.std.proofs.lemmas.Iterator.Adapters.{YieldsList-from_rev_slice}
use Rattle.std.proofs.lemmas.Iterator.Consumers.{YieldsList-turn, YieldsList-end}
use Rattle.automaton.specs.Tables.{automaton_of}
use Rattle.field.specs.Algebra.{ops}
use Rattle.field.specs.Codes.{AllBelow}
use Rattle.field.specs.Ops.{dot}
use Rattle.vectors.specs.Tables.{vectors_of}
use Rattle.entry_vectors.proofs.Backwards.{all_at, all_reverse, all_zip}
use Rattle.entry_vectors.proofs.Dots.{dot_gathered, last_at}
use Rattle.entry_vectors.proofs.Valuation.value.Goals as goal

pub mul-requires : goal.mul-requires
mul-requires g c =
    let v = c.args.self.now in
    let q = (g.F.Field.model v.field.now).size in
    let vs = vectors_of v.vectors in
    let ws = c.finals.result.now in
    let xs = c.in-Some.last.now in
    let turn = YieldsList-turn (YieldsList-from_zip (YieldsList-from_rev_slice ws cc) (YieldsList-from_rev_slice xs cc))
    c.loop-weight.yielded _ c.loop-weight.yielded_by _ c.next.new.self (c.in-Some-2.weight, c.in-Some-2.x) c.in-Some-2.is c.next.ensures.steps in
    let weights = subst (AllBelow q) (sym c.finals.ensures.are) v.sound.finals in
    let codes = subst (AllBelow q) (sym c.in-Some.ensures.is.1) (All-get_or (AllBelow q) vs (length vs - 1) [] (omega (arith, c.in-Some.ensures.is.0)) v.codes) in
    let pairs = all_zip _ _ _ _ (all_reverse (λ w. w < q) ws weights) (all_reverse (λ x. x < q) xs codes) in
    let both = all_at _ _ _ (c.in-Some-2.weight.now, c.in-Some-2.x.now) pairs turn in
    let any : (i : ℕ) → get_or ws i 0 < q = λ i. code_below q ws i (omega (arith, both.0)) weights in
    (search (rules, both, any), both.1)

pub returns-clause-value : goal.returns-clause-value
returns-clause-value g c =
    let v = c.args.self.now in
    let o = ops (g.F.Field.model v.field.now) in
    let vs = vectors_of v.vectors in
    let ws = c.finals.result.now in
    let xs = c.in-Some.last.now in
    let finals = ap length c.finals.ensures.are in
    let last = c.in-Some.ensures.is.1 ∙ sym (last_at [] [] vs (omega (arith, c.in-Some.ensures.is.0))) in
    let end = YieldsList-end (YieldsList-from_zip (YieldsList-from_rev_slice ws cc) (YieldsList-from_rev_slice xs cc))
    c.loop-weight.yielded _ c.loop-weight.yielded_by _ c.next.new.self c.in-None.is c.next.ensures.steps in
    c.loop-weight.invariant.terms
    ∙ dot_gathered o ws xs _ (omega (arith, finals, c.in-Some.ensures.wide, v.wide)) end.0
    ∙ ap (λ ys. dot o ys xs) c.finals.ensures.are
    ∙ ap (dot o (automaton_of v.automaton.now).finals) last
