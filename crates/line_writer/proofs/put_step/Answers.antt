use Rattle.std.proofs.Common.{[], ◌∷◌, decimal}
use Rattle.words.proofs.Puts.{◌then◌, bytes_are}
use Rattle.line_writer.proofs.Writes.{line_is}
use Rattle.line_writer.proofs.put_step.Goals as goal

pub returns-clause-writes : goal.returns-clause-writes
returns-clause-writes c = bytes_are (line_is _ (decimal c.args.v ∷ [])) (c.number.ensures.writes then c.put_last.ensures.writes)
