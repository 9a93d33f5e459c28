use Rattle.std.proofs.Common.{ap, ◌∙◌}
use borrow.Author.Tests.{false-ltb}
use Rattle.words.proofs.Puts.{◌then◌, bytes_are}
use Rattle.line_writer.specs.Writing.{after_space}
use Rattle.line_writer.proofs.Writes.{name_at, name_past}
use Rattle.line_writer.proofs.put_name.Goals as goal

pub returns-in-Some-clause-writes : goal.returns-in-Some-clause-writes
returns-in-Some-clause-writes g c =
    let found = c.in-Some.ensures.lookup in
    bytes_are (ap after_space (c.name.ensures ∙ name_at g.T.Named.called c.args.items.now c.args.number c.saturating_sub.ensures c.in-Some.item.now found.3.0 found.1))
    (c.byte.ensures then c.name-in-Some.ensures.writes)

pub returns-in_default-clause-writes : goal.returns-in_default-clause-writes
returns-in_default-clause-writes g c =
    bytes_are (ap after_space (name_past g.T.Named.called c.args.items.now c.args.number c.saturating_sub.ensures (false-ltb _ _ c.in_default.ensures.lookup.0))) c.byte.ensures
