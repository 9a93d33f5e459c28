use Rattle.session.proofs.Declared.{weighs_declared}
use Rattle.session.proofs.weighs_what_was_declared.Goals as goal

pub returns : goal.returns
returns c = weighs_declared
