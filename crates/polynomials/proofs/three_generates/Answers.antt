use Rattle.polynomials.proofs.Logarithms.{powers, logarithms, generated, inverse_tables}
use Rattle.polynomials.proofs.three_generates.Goals as goal

pub returns : goal.returns
returns c = (powers, logarithms, generated, inverse_tables)
