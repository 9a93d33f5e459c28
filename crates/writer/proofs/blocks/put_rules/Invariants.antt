use Rattle.std.proofs.Common.{map, take}
use Rattle.drafts.specs.Drafts.{states_of}
use Rattle.format.specs.Lines.{text_of_lines}
use Rattle.lines.specs.Recognized.{side_of}
use Rattle.rules.specs.Rules.{rule_model}
use Rattle.tables.specs.Tables.{symbols_of}
use Rattle.words.specs.Puts.{Writes}
use Rattle.line_writer.specs.Writing.{rule_by}
use Rattle.writer.proofs.blocks.put_rules.Given as goal

abbrev pub invariant-loop-rule : goal.invariant-loop-rule
invariant-loop-rule l =
    let line = rule_by (side_of l.side) (symbols_of l.d.symbols) (states_of l.part) in
    Writes l.initial.pen (text_of_lines (map (λ r. line (rule_model r)) (take l.rule-index l.rule-items))) l.pen
