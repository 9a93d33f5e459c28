use Rattle.std.proofs.Common.{map, take}
use Rattle.format.specs.Lines.{text_of_lines}
use Rattle.words.specs.Puts.{Writes}
use Rattle.line_writer.specs.Writing.{step_line}
use Rattle.writer.proofs.blocks.put_field.Given as goal

abbrev pub invariant-loop-u : goal.invariant-loop-u
invariant-loop-u l = Writes l.initial.pen (text_of_lines (map step_line (take l.u-index l.u-items))) l.pen
