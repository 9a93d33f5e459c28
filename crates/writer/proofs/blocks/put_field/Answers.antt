use Rattle.std.proofs.Common.{map, length, refl, ap, ◌∙◌, arith}
use Rattle.format.specs.Lines.{text_of_lines}
use Rattle.shapes.specs.Shapes.{shape_kind, steps}
use Rattle.words.proofs.Puts.{◌then◌, bytes_are, next_item, all_items}
use Rattle.line_writer.specs.Writing.{ended, step_line}
use Rattle.writer.proofs.Texts.{kind_is}
use Rattle.writer.proofs.blocks.put_field.Goals as goal

pub loop-u-preserved : goal.loop-u-preserved
loop-u-preserved c =
    next_item ended step_line _ c.loop-u.u-index (0, 0) c.loop-u-test.true refl c.loop-u.invariant c.put_step.ensures.writes

pub returns : goal.returns
returns c =
    let kind = c.kind.ensures ∙ ap shape_kind c.field-2.ensures in
    let all = c.steps-steps.ensures ∙ ap steps c.field.ensures in
    c.bytes.ensures
    then bytes_are (kind_is kind (c.len.ensures.is ∙ ap length all)) c.put_kind.ensures.writes
    then c.bytes-2.ensures
    then bytes_are (ap (λ ss. text_of_lines (map step_line ss)) (c.items-u-items.ensures.are ∙ all))
    (all_items ended step_line _ c.loop-u.u-index (omega arith) c.loop-u.invariant)
