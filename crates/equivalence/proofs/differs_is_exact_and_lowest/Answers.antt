use Rattle.equivalence.proofs.Exactness.{differs_exact_and_lowest}
use Rattle.equivalence.proofs.differs_is_exact_and_lowest.Goals as goal

pub returns : goal.returns
returns c = differs_exact_and_lowest
