use Rattle.std.proofs.Common.{[], ◌∷◌, ◌++◌, decimal, ap, ◌∙◌}
use Rattle.words.specs.Spelled.{spelled}
use Rattle.words.proofs.Puts.{◌then◌, bytes_are}
use Rattle.line_writer.proofs.Writes.{rest, line_is}
use Rattle.line_writer.proofs.put_state.Goals as goal

pub returns-clause-writes : goal.returns-clause-writes
returns-clause-writes c =
    let fields = spelled c.args.state.now.name ∷ decimal c.args.state.now.weight ∷ [] in
    bytes_are (ap (λ t. t ++ rest fields) c.letter_of.ensures ∙ line_is _ fields)
    (c.byte.ensures then c.byte-2.ensures then c.name.ensures.writes then c.put_last.ensures.writes)
