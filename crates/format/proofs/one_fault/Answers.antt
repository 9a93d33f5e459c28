use Rattle.format.proofs.Unique.{one_fault}
use Rattle.format.proofs.one_fault.Goals as goal

pub returns : goal.returns
returns c = one_fault
