use Rattle.words.proofs.Puts.{◌then◌}
use Rattle.line_writer.proofs.put_last.Goals as goal

pub returns-clause-writes : goal.returns-clause-writes
returns-clause-writes c = c.byte.ensures then c.number.ensures.writes then c.byte-2.ensures
