use Rattle.equivalence.proofs.Exactness.{equal_exact}
use Rattle.equivalence.proofs.equal_is_exact.Goals as goal

pub returns : goal.returns
returns c = equal_exact
