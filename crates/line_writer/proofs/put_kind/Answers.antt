use Rattle.std.proofs.Common.{[], ◌∷◌, codes, decimal, sym, ap, ◌∙◌}
use Rattle.format.specs.Lines.{names_field}
use Rattle.words.proofs.Puts.{◌then◌, bytes_are}
use Rattle.line_writer.specs.Writing.{ended}
use Rattle.line_writer.proofs.Writes.{line_is}
use Rattle.line_writer.proofs.put_kind.Goals as goal
use Rattle.line_writer.proofs.put_kind.Goals.{in-Residues, in-Bytes}

pub returns-clause-writes : goal.returns-clause-writes
returns-clause-writes c =
    elim c.match-kind.branch [
      | in-Residues w ↦
          bytes_are (line_is (codes "prime") (decimal w.in-Residues.p ∷ decimal c.args.count ∷ []) ∙ ap (λ k. ended (names_field k c.args.count)) (sym w.in-Residues.is))
          (w.bytes.ensures then w.number.ensures.writes then (rw w.pen-is at c.put_last.ensures.writes))
      | in-Bytes w ↦
          bytes_are (line_is (codes "byte") (codes "-" ∷ decimal c.args.count ∷ []) ∙ ap (λ k. ended (names_field k c.args.count)) (sym w.in-Bytes.is))
          (w.bytes-in-Bytes.ensures then (rw w.pen-is at c.put_last.ensures.writes))
    ]
