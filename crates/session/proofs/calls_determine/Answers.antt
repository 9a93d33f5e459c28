use Rattle.session.proofs.Runs.{calls_decide}
use Rattle.session.proofs.calls_determine.Goals as goal

pub returns : goal.returns
returns c = calls_decide
