use Rattle.std.proofs.lemmas.List.{take-replicate}
use Rattle.table.proofs.Table.filled.Goals as goal

pub returns : goal.returns
returns g c = take-replicate c.args.count g.row.N c.args.item c.requires
