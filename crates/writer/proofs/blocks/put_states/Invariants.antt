use Rattle.std.proofs.Common.{map, take}
use Rattle.format.specs.Lines.{text_of_lines}
use Rattle.lines.specs.Recognized.{side_of}
use Rattle.words.specs.Puts.{Writes}
use Rattle.line_writer.specs.Writing.{state_line}
use Rattle.writer.proofs.blocks.put_states.Given as goal

abbrev pub invariant-loop-state : goal.invariant-loop-state
invariant-loop-state l =
    Writes l.initial.pen (text_of_lines (map (state_line (side_of l.side)) (take l.state-index l.state-items))) l.pen
