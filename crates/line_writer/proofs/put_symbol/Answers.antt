use Rattle.std.proofs.Common.{[], ◌∷◌, decimal}
use Rattle.words.proofs.Puts.{◌then◌, bytes_are}
use Rattle.line_writer.proofs.Writes.{from_there, line_is}
use Rattle.line_writer.proofs.put_symbol.Goals as goal

pub returns-clause-writes : goal.returns-clause-writes
returns-clause-writes c =
    bytes_are (line_is _ (decimal c.args.symbol.now.rank ∷ []))
    (c.name.ensures.writes then from_there c.put_last.ensures.writes (cc) (cc) (cc))
