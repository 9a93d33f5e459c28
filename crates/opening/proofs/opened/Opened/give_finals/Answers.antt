use Rattle.std.proofs.Common.{◌+◌, ◌<◌, ◌≤◌, ◌++◌, length, map, take, drop, sym, ◌∙◌, subst, arith}
use Rattle.comparison.specs.Comparisons.{field_of, session}
use Rattle.opening.proofs.Elements.{holds_of, replaced, replaced_length}
use Rattle.opening.proofs.Steps.{final_accepted, final_more}
use Rattle.opening.specs.Opening.{final_of}
use Rattle.session.specs.Calls.{Does, call_final}
use Rattle.session.specs.Sessions.{side}
use Rattle.side.specs.Numbers.{number}
use Rattle.opening.proofs.opened.Opened.give_finals.Goals as goal

pub unwrap-requires : goal.unwrap-requires
unwrap-requires g c =
    let i = c.loop-i.i in
    let xs = c.args.states.now in
    let x = c.index-states-i.result in
    let A = g.F.Field.model (field_of c.loop-i.self.comparison) in
    let s = session c.args.self.now.comparison in
    let before = session c.loop-i.self.comparison in
    let after = session c.set_final.new.self in
    let ys = (side s.sides (number c.args.side)).finals in
    let fs = map final_of (take i xs) ++ drop i ys in
    let many = replaced_length final_of xs i x c.loop-i-test.true ys c.requires.all in
    let state : (1 ≤ i + 1) × (i + 1 ≤ length fs) = (omega arith, omega (arith, many, c.loop-i-test.true)) in
    let here = holds_of final_of xs i x c.loop-i-test.true c.index-states-i.is _ c.requires.below in
    let below = subst (λ (z : g.row.F.Denot). x.weight < (g.F.Field.model z).size) (sym c.loop-i.invariant.field) here in
    let does = subst (λ n. Does A before (call_final n (i + 1) x.weight) c.set_final.result after) c.into.ensures c.set_final.ensures.does in
    final_accepted A s before after c.set_final.result c.args.side (i + 1) x.weight fs c.loop-i.invariant.holds
    c.args.self.now.is_open state below does

pub loop-i-preserved : goal.loop-i-preserved
loop-i-preserved g c =
    let i = c.loop-i.i in
    let xs = c.args.states.now in
    let x = c.index-states-i.result in
    let A = g.F.Field.model (field_of c.loop-i.self.comparison) in
    let s = session c.args.self.now.comparison in
    let before = session c.loop-i.self.comparison in
    let after = session c.set_final.new.self in
    let ys = (side s.sides (number c.args.side)).finals in
    let fs = map final_of (take i xs) ++ drop i ys in
    let more = replaced final_of xs i x c.loop-i-test.true c.index-states-i.is ys c.requires.all in
    let does = subst (λ n. Does A before (call_final n (i + 1) x.weight) c.set_final.result after) c.into.ensures c.set_final.ensures.does in
    record {
      holds =
          final_more A s before after c.set_final.result c.args.side (i + 1) x.weight fs _ c.loop-i.invariant.holds
          c.unwrap.ensures does more;
      field = c.set_final.ensures.field ∙ c.loop-i.invariant.field;
    }
