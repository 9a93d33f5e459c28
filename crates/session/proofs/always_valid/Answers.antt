use Rattle.session.proofs.Validity.{always}
use Rattle.session.proofs.always_valid.Goals as goal

pub returns : goal.returns
returns c = always
