use Rattle.format.proofs.Unique.{accepted_as_one}
use Rattle.format.proofs.accepted_as_one.Goals as goal

pub returns : goal.returns
returns c = accepted_as_one
