use Rattle.std.proofs.Common.{◌≡◌, ℕ, ◌-◌, ◌*◌, ◌+◌, ◌^◌, ◌<◌, ◌≤◌, List, get_or, drop, length, sym, ap, ◌∙◌, arith, below_more}
use Rattle.std.specs.Int.{IsInRange}
use Rattle.std.proofs.lemmas.List.{at_drop_more, at_drop_all}
use Rattle.words.specs.Words.{Number}
use Rattle.words.proofs.Numbers.{read, read-le, number_shape, number_of}
use Rattle.words.proofs.number.Goals as goal

-- a part that writes n before place i, and too large a number up to after it
too_large : (part : List ℕ) (n i : ℕ) → i < length part → read n (drop i part) ≡ read 0 part → 2 ^ 32 ≤ n * 10 + (get_or part i 0 - 48) → (m : ℕ) → Number part m → ⊥
too_large part n i less same large m h =
    omega (arith, h.0, (number_shape part m h).value, same, at_drop_more (read n) part i 0 less, read-le (n * 10 + (get_or part i 0 - 48)) (drop (i + 1) part))

pub returns-in_err-first : goal.returns-in_err-first
returns-in_err-first c = rw c.from_residual.ensures (λ n h. omega (arith, (number_shape _ n h).some, c.in_err-first.ensures.cases))

pub returns-then-rest-gt0 : goal.returns-then-rest-gt0
returns-then-rest-gt0 c n h =
    let (e, l) = c.in_ok-first.ensures.cases in
    omega (arith, (number_shape _ n h).lead (ap (λ xs. get_or xs 0 0) e ∙ c.if-first-eq48.true))

pub returns-in_err-digit : goal.returns-in_err-digit
returns-in_err-digit c =
    rw c.from_residual-in_err-digit.ensures
    (λ n h. omega (arith, (number_shape _ n h).digital c.loop-b.b-index c.loop-b-test.true, c.in_err-digit.ensures.cases))

pub returns-in_err-checked_mul : goal.returns-in_err-checked_mul
returns-in_err-checked_mul c =
    rw c.from_residual-in_err-checked_mul.ensures
    (too_large _ c.loop-b.n _ c.loop-b-test.true c.loop-b.invariant.value (omega (arith, c.in_err-checked_mul.ensures)))

pub returns-in_err-n : goal.returns-in_err-n
returns-in_err-n c =
    rw c.from_residual-in_err-n.ensures
    (too_large _ c.loop-b.n _ c.loop-b-test.true c.loop-b.invariant.value (omega (arith, c.in_err-n.ensures, c.in_ok-checked_mul.ensures, c.in_ok-digit.ensures.value, c.in_ok-digit.ensures.cases)))

pub loop-b-preserved : goal.loop-b-preserved
loop-b-preserved c =
    let b = get_or c.args.part.now c.loop-b.b-index 0 in
    let digit : IsInRange 48 57 b = omega (arith, c.in_ok-digit.ensures.cases, c.in_ok-digit.ensures.value) in
    let next : c.in_ok-n.n ≡ c.loop-b.n * 10 + (b - 48) = omega (arith, c.in_ok-n.ensures, c.in_ok-checked_mul.ensures, c.in_ok-digit.ensures.cases) in
    record {
      fits = omega (arith, c.in_ok-n.ensures);
      digital = below_more _ _ c.loop-b.invariant.digital digit;
      value = ap (λ k. read k (drop (c.loop-b.b-index + 1) c.args.part.now)) next
          ∙ sym (at_drop_more (read c.loop-b.n) c.args.part.now c.loop-b.b-index 0 c.loop-b-test.true)
          ∙ c.loop-b.invariant.value;
    }

pub returns : goal.returns
returns c =
    let (e, l) = c.in_ok-first.ensures.cases in
    number_of c.args.part.now c.loop-b.n c.loop-b.invariant.fits (record {
      some = omega arith;
      lead = λ h. let f = ap (λ xs. get_or xs 0 0) e in omega (arith, c.else-first-eq48.either);
      digital = λ k h. c.loop-b.invariant.digital k (omega arith);
      value = sym c.loop-b.invariant.value ∙ at_drop_all (read c.loop-b.n) c.args.part.now c.loop-b.b-index (omega arith);
    })
