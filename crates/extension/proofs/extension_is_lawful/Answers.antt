use Rattle.extension.proofs.Laws.{extension_lawful}
use Rattle.extension.proofs.extension_is_lawful.Goals as goal

pub returns : goal.returns
returns c = extension_lawful
