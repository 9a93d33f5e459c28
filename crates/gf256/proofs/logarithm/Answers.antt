use Rattle.std.proofs.Common.{arith}
use Rattle.polynomials.proofs.Laws.{logarithms_are}
use Rattle.polynomials.proofs.Logarithms.{logarithms}
use Rattle.gf256.proofs.logarithm.Goals as goal

pub returns-else-x-eq0 : goal.returns-else-x-eq0
unfolding logarithms
returns-else-x-eq0 c = let is = logarithms_are c.args.x (omega arith) (omega arith) in (omega arith, is.0, is.1)
