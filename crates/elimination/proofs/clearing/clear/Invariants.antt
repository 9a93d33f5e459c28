use Rattle.std.proofs.Common.{get_or}
use Rattle.elimination.proofs.Places.{Rewritten}
use Rattle.elimination.proofs.clearing.clear.Given as goal

abbrev pub invariant-loop-i : goal.invariant-loop-i
invariant-loop-i g l =
    let A = g.F.Field.model l.f in
    Rewritten A.size
    (λ k. A.sum (get_or l.initial.v k 0) (A.prod (A.opp (get_or l.initial.v l.pivot 0)) (get_or l.row k 0)))
    l.initial.v l.v l.i
