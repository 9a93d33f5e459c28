use Rattle.std.proofs.Common.{length, arith}
use Rattle.elimination.proofs.Steps.{cleared_already}
use Rattle.elimination.proofs.Places.{rewritten_more, rewritten_all}
use Rattle.elimination.proofs.clearing.clear.Goals as goal

pub returns-then-v-pivot-eq0-clause-value : goal.returns-then-v-pivot-eq0-clause-value
returns-then-v-pivot-eq0-clause-value g c =
    cleared_already (g.F.Field.model c.args.f.now) (g.met.F.Field.laws c.args.f.now) c.args.v.now c.args.row.now
    c.args.pivot c.requires.codes c.requires.row c.if-v-pivot-eq0.true

pub loop-i-preserved : goal.loop-i-preserved
loop-i-preserved g c =
    let at = c.loop-i.invariant.2 c.loop-i.i (omega arith) in
    rewritten_more _ _ c.args.v.now c.loop-i.v c.loop-i.i c.add.result (omega arith) c.add.ensures.below (cc at)
    c.loop-i.invariant

pub returns-clause-value : goal.returns-clause-value
returns-clause-value g c =
    rewritten_all _ _ c.args.v.now c.loop-i.v (length c.args.v.now) c.loop-i.i (omega arith) (omega arith)
    c.loop-i.invariant
