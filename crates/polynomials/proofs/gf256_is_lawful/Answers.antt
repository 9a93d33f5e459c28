use Rattle.polynomials.proofs.Laws.{field}
use Rattle.polynomials.proofs.gf256_is_lawful.Goals as goal

pub returns : goal.returns
returns c = field
