use Rattle.polynomials.proofs.Logarithms.{logarithms, generated, inverse_tables}
use Rattle.gf256.proofs.both_tables.Goals as goal

pub returns : goal.returns
unfolding logarithms
returns c = record { generated = generated; inverse = inverse_tables }
