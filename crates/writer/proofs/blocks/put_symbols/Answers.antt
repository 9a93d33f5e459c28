use Rattle.std.proofs.Common.{map, ap, arith}
use Rattle.tables.specs.Tables.{symbol_of}
use Rattle.format.specs.Lines.{declares_symbol, text_of_lines}
use Rattle.words.proofs.Puts.{◌then◌, bytes_are, next_item, all_items}
use Rattle.line_writer.specs.Writing.{ended, symbol_line}
use Rattle.line_writer.proofs.Writes.{from_there}
use Rattle.writer.proofs.Texts.{lines_are}
use Rattle.writer.proofs.blocks.put_symbols.Goals as goal

pub loop-symbol-preserved : goal.loop-symbol-preserved
loop-symbol-preserved c =
    next_item ended symbol_line _ c.loop-symbol.symbol-index _ c.loop-symbol-test.true c.symbol-item.is c.loop-symbol.invariant
    (from_there c.put_symbol.ensures.writes (cc) (cc) (cc))

pub returns : goal.returns
returns c =
    let all = lines_are (λ s. declares_symbol s.name s.rank) symbol_of _ (ap (map symbol_of) c.symbols-symbol-items.ensures.are) in
    c.bytes.ensures
    then bytes_are (ap text_of_lines all)
    (all_items ended symbol_line _ c.loop-symbol.symbol-index (omega arith) c.loop-symbol.invariant)
