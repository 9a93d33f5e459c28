use Rattle.std.proofs.Common.{get_or}
use Rattle.elimination.proofs.Places.{Rewritten}
use Rattle.elimination.proofs.normalizing.scale.Given as goal

abbrev pub invariant-loop-x : goal.invariant-loop-x
invariant-loop-x g l =
    let A = g.F.Field.model l.f in
    Rewritten A.size (λ k. A.prod l.c (get_or l.initial.v k 0)) l.initial.v l.v l.x-index
