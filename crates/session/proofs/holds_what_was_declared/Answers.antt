use Rattle.session.proofs.Declared.{holds_declared}
use Rattle.session.proofs.holds_what_was_declared.Goals as goal

pub returns : goal.returns
returns c = holds_declared
