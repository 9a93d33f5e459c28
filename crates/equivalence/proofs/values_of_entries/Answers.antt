use Rattle.equivalence.proofs.Valuing.{entries_valued}
use Rattle.equivalence.proofs.values_of_entries.Goals as goal

pub returns : goal.returns
returns c = entries_valued
