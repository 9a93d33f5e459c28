use Rattle.std.proofs.Common.{ℕ, List, ◌++◌, ap, ◌∙◌, arith, append-nil, refl}
use Rattle.drafts.specs.Drafts.{record_of}
use Rattle.format.specs.Lines.{Side, A, B, text_of_lines}
use Rattle.format.specs.Records.{state_lines}
use Rattle.lines.specs.Recognized.{side_of}
use Rattle.words.proofs.Puts.{◌then◌, bytes_are, next_item, all_items}
use Rattle.writer.proofs.Texts.{text_append}
use Rattle.writer.proofs.blocks.put_both_states.Goals as goal

pub loop-side-preserved : goal.loop-side-preserved
loop-side-preserved c =
    next_item (λ x. text_of_lines (state_lines (record_of c.args.d.now) x)) side_of _ c.loop-side.side-index _ c.loop-side-test.true refl c.loop-side.invariant c.put_states.ensures

pub returns : goal.returns
returns c =
    let r = record_of c.args.d.now in
    let text : Side → List ℕ = λ x. text_of_lines (state_lines r x) in
    let both = ap (λ t. text A ++ t) (append-nil (text B)) ∙ text_append (state_lines r A) (state_lines r B) in
    c.bytes.ensures then bytes_are both (all_items text side_of _ c.loop-side.side-index (omega arith) c.loop-side.invariant)
