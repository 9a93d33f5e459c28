use Rattle.session.proofs.Runs.{accepted_alone}
use Rattle.session.proofs.refused_alter_nothing.Goals as goal

pub returns : goal.returns
returns c = accepted_alone
