use Rattle.std.proofs.Common.{arith}
use lib.Seq.{take-set-lt}
use Rattle.std.proofs.lemmas.List.{length-take-le}
use Rattle.table.proofs.Table.set.Goals as goal

pub returns : goal.returns
returns g c =
    let t = c.args.self.now in
    let l = length-take-le t.count t.entries (omega arith) in
    take-set-lt t.count t.entries c.args.at c.args.item (omega arith)
