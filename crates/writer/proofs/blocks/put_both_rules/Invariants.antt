use Rattle.std.proofs.Common.{map, take}
use Rattle.std.specs.List.{flat_map}
use Rattle.drafts.specs.Drafts.{record_of}
use Rattle.format.specs.Lines.{text_of_lines}
use Rattle.format.specs.Records.{rule_lines}
use Rattle.lines.specs.Recognized.{side_of}
use Rattle.words.specs.Puts.{Writes}
use Rattle.writer.proofs.blocks.put_both_rules.Given as goal

abbrev pub invariant-loop-side : goal.invariant-loop-side
invariant-loop-side l =
    Writes l.initial.pen (flat_map (λ x. text_of_lines (rule_lines (record_of l.d) x)) (map side_of (take l.side-index l.side-items))) l.pen
