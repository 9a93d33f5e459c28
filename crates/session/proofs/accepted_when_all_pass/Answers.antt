use Rattle.session.proofs.Outcomes.{accepted_when}
use Rattle.session.proofs.accepted_when_all_pass.Goals as goal

pub returns : goal.returns
returns c = accepted_when
