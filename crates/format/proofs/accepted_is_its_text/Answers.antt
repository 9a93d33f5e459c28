use Rattle.format.proofs.Texts.{accepted_is_its_text}
use Rattle.format.proofs.accepted_is_its_text.Goals as goal

pub returns : goal.returns
returns c = accepted_is_its_text
