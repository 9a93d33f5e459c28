use Rattle.polynomials.proofs.Laws.{powers_are}
use Rattle.polynomials.proofs.Logarithms.{powers}
use Rattle.gf256.proofs.power.Goals as goal

pub returns : goal.returns
unfolding powers
returns c = powers_are c.args.i c.requires
