use Rattle.session.proofs.Declared.{numbered}
use Rattle.session.proofs.symbols_are_numbered.Goals as goal

pub returns : goal.returns
returns c = numbered
