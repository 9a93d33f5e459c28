use Rattle.equivalence.proofs.Exactness.{always_within}
use Rattle.equivalence.proofs.always_bounded.Goals as goal

pub returns : goal.returns
returns c = always_within
