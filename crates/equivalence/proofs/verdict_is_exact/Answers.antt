use Rattle.equivalence.proofs.Exactness.{verdict_exact}
use Rattle.equivalence.proofs.verdict_is_exact.Goals as goal

pub returns : goal.returns
returns c = verdict_exact
