use Rattle.std.proofs.Common.{◌/◌, length, decimal, ap, ◌∙◌, arith, length-append}
use Rattle.words.proofs.Numbers.{last_only, last_after}
use Rattle.words.proofs.Puts.{put_then}
use Rattle.words.proofs.put.+put_decimal.Goals as goal
use Rattle.words.proofs.put.+put_decimal.Goals.{then-n-lt10, else-n-lt10}

pub returns-clause-next : goal.returns-clause-next
returns-clause-next t c =
    elim c.if-n-lt10.branch [
      | then-n-lt10 w ↦ omega (arith, ap length (last_only c.args.n w.if-n-lt10.true), w.last-is, c.put_byte.ensures.next)
      | else-n-lt10 w ↦
          let l = simp length-append at (ap length (last_after c.args.n w.if-n-lt10.false (omega arith))) in
          omega (arith, l, w.last-is, w.put_decimal-last.ensures.next, c.put_byte.ensures.next)
    ]

pub returns-clause-put : goal.returns-clause-put
returns-clause-put t c =
    let put = rw c.last_digit.ensures at c.put_byte.ensures.put in
    elim c.if-n-lt10.branch [
      | then-n-lt10 w ↦ rw (last_only c.args.n w.if-n-lt10.true, ← w.out-is, ← w.last-is) put
      | else-n-lt10 w ↦
          rw (last_after c.args.n w.if-n-lt10.false (omega arith))
          (put_then _ _ _ c.args.at _ (decimal (c.args.n / 10)) _ (omega arith) (w.last-is ∙ w.put_decimal-last.ensures.next) (w.out-is ∙ w.put_decimal-last.ensures.put) put)
    ]
