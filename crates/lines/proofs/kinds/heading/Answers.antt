use Rattle.std.proofs.Common.{codes, sym, arith}
use Rattle.std.proofs.lemmas.Slice.Eq.{text_from_reads}
use Rattle.lines.proofs.kinds.heading.Goals as goal

pub returns-in-115-3 : goal.returns-in-115-3
returns-in-115-3 c =
    sym (text_from_reads c.args.bytes.now (codes "side symbol target weight children") (omega arith) (omega arith))
