use Rattle.std.proofs.Common.{◌+◌, set, get_or, take, refl, ap, ◌∙◌, sym, arith}
use Rattle.std.proofs.lemmas.List.{take_all}
use Rattle.words.specs.Puts.{overlaid}
use Rattle.words.specs.declared.pen.Pen.{Pen}
use Rattle.words.proofs.Puts.{put_front, put_next, put_past}
use Rattle.words.proofs.pen.Pen.bytes.Goals as goal
use Rattle.words.proofs.pen.Pen.bytes.Goals.{then-at-self+else-loop-i-test, else-at-self}

pub loop-i-init : goal.loop-i-init
loop-i-init c = (refl, refl)

pub loop-i-preserved : goal.loop-i-preserved
loop-i-preserved c =
    let at = c.args.self.now.at in
    let i = c.loop-i.i in
    let taken = take c.min.result c.args.bytes.now in (
      c.loop-i.invariant.0,
      ap (λ o. set o (at + i) (get_or taken i 0)) c.loop-i.invariant.1 ∙ put_next c.args.self.now.out.now at taken i (omega (arith, c.loop-i-test.true)),
    )

pub returns : goal.returns
returns c =
    let out = c.args.self.now.out.now in
    let at = c.args.self.now.at in
    let bytes = c.args.bytes.now in
    elim c.if-at-self.branch [
      | then-at-self+else-loop-i-test w ↦
          let all = ap (overlaid out at) (take_all w.loop-i.i (take w.min.result bytes) (omega (arith, w.loop-i-test.false))) in
          record {
            same_buffer = ap (λ (s : Pen). s.out.ghost_name) w.self-is ∙ w.loop-i.invariant.0;
            place = omega (arith, c.saturating_add-self.ensures);
            put = ap (λ (s : Pen). s.out.now) w.self-is ∙ w.loop-i.invariant.1 ∙ all ∙ put_front out at bytes _ (omega (arith, w.min.ensures));
          }
      | else-at-self w ↦
          record {
            same_buffer = ap (λ (s : Pen). s.out.ghost_name) w.self-is;
            place = omega (arith, c.saturating_add-self.ensures);
            put = ap (λ (s : Pen). s.out.now) w.self-is ∙ sym (put_past out at bytes (omega (arith, w.if-at-self.false)));
          }
    ]
