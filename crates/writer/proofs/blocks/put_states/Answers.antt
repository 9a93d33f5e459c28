use Rattle.std.proofs.Common.{ap, ◌∙◌, arith}
use Rattle.drafts.specs.Drafts.{states_of}
use Rattle.tables.specs.Tables.{state_of}
use Rattle.format.specs.Lines.{declares_state, text_of_lines}
use Rattle.lines.specs.Recognized.{side_of}
use Rattle.words.proofs.Puts.{bytes_are, next_item, all_items}
use Rattle.line_writer.specs.Writing.{ended, state_line}
use Rattle.writer.proofs.Texts.{lines_are, part_is}
use Rattle.writer.proofs.blocks.put_states.Goals as goal

pub loop-state-preserved : goal.loop-state-preserved
loop-state-preserved c =
    next_item ended (state_line (side_of c.args.side)) _ c.loop-state.state-index _ c.loop-state-test.true c.state-item.is c.loop-state.invariant c.put_state.ensures.writes

pub returns : goal.returns
returns c =
    let d = side_of c.args.side in
    let are = c.states-state-items.ensures.holds ∙ ap states_of c.part.ensures ∙ ap (λ p. p.states) (part_is c.args.d.now c.args.side) in
    bytes_are (ap text_of_lines (lines_are (λ s. declares_state d s.name s.final) state_of _ are))
    (all_items ended (state_line d) _ c.loop-state.state-index (omega arith) c.loop-state.invariant)
