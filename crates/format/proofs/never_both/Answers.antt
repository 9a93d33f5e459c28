use Rattle.format.proofs.Unique.{never_both}
use Rattle.format.proofs.never_both.Goals as goal

pub returns : goal.returns
returns c = never_both
