use Rattle.std.proofs.Common.{map, take}
use Rattle.format.specs.Lines.{text_of_lines}
use Rattle.words.specs.Puts.{Writes}
use Rattle.line_writer.specs.Writing.{symbol_line}
use Rattle.writer.proofs.blocks.put_symbols.Given as goal

abbrev pub invariant-loop-symbol : goal.invariant-loop-symbol
invariant-loop-symbol l =
    Writes l.initial.pen (text_of_lines (map symbol_line (take l.symbol-index l.symbol-items))) l.pen
