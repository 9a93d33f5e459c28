use Rattle.format.proofs.Texts.{text_is_accepted}
use Rattle.format.proofs.text_is_accepted.Goals as goal

pub returns : goal.returns
returns c = text_is_accepted
