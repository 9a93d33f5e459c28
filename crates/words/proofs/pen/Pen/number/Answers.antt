use Rattle.std.proofs.Common.{◌/◌, decimal, ap, ◌∙◌, sym, arith}
use Rattle.words.specs.Puts.{Writes}
use Rattle.words.specs.declared.pen.Pen.{Pen}
use Rattle.words.proofs.Numbers.{decimal_short, last_only, last_after}
use Rattle.words.proofs.Puts.{bytes_are, ◌then◌}
use Rattle.words.proofs.pen.Pen.number.Goals as goal
use Rattle.words.proofs.pen.Pen.number.Goals.{then-n-ge10, else-n-ge10}

pub returns-clause-writes : goal.returns-clause-writes
returns-clause-writes c =
    let last = rw c.last_digit.ensures at c.byte.ensures in
    elim c.if-n-ge10.branch [
      | then-n-ge10 w ↦
          let first : Writes c.args.self.now (decimal (c.args.n / 10)) c.if-n-ge10.self =
          record {
            same_buffer = ap (λ (s : Pen). s.out.ghost_name) w.self-is;
            place = ap (λ (s : Pen). s.at) w.self-is ∙ w.put_decimal-self.ensures.next;
            put = ap (λ (s : Pen). s.out.now) w.self-is ∙ w.put_decimal-self.ensures.put;
          } in
          bytes_are (sym (last_after c.args.n w.if-n-ge10.true (omega arith))) (first then last)
      | else-n-ge10 w ↦
          bytes_are (sym (last_only c.args.n w.if-n-ge10.false)) (rw w.self-is at last)
    ]

pub returns-clause-near : goal.returns-clause-near
returns-clause-near c = omega (arith, (returns-clause-writes c).place, decimal_short c.args.n (omega (arith, c.ranges.n.fits)))
