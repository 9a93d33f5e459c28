use Rattle.std.proofs.Common.{length, arith}
use Rattle.elimination.proofs.Places.{rewritten_all}
use Rattle.elimination.proofs.normalizing.scale.Goals as goal

pub returns : goal.returns
returns g c =
    rewritten_all _ _ c.args.v.now c.loop-x.v (length c.args.v.now) c.loop-x.x-index (omega arith) (omega arith)
    c.loop-x.invariant
