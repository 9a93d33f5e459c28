use Rattle.session.proofs.Causes.{for_cause}
use Rattle.session.proofs.refused_for_cause.Goals as goal

pub returns : goal.returns
returns c = for_cause
