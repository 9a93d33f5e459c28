-- GF(256) is a field: the ring laws, and an inverse of each code but zero from the logarithms. Assumes nothing.
use Rattle.std.proofs.Common.{◌≡◌, ℕ, zero, suc, ◌+◌, ◌-◌, ◌<◌, ◌≤◌, get_or, sym, ap, ◌∙◌, ⊎_elim, add-one, arith, lit<, lit≤}
use lib.Bits.{xor_assoc, xor_comm, xor_lt, xor_self, xor_zero_r}
use Rattle.std.proofs.lemmas.List.{get_or_past}
use Rattle.std.proofs.lemmas.Bool.{cases_lt}
use Rattle.field.specs.Ops.{power}
use Rattle.field.specs.Algebra.{RingLaws, Lawful, ops}
use Rattle.field.proofs.Inverse.{lawful}
use Rattle.polynomials.specs.Polynomials.{times, gf256}
use Rattle.field.proofs.Powers.{power_below, power_sum}
use Rattle.polynomials.proofs.Logarithms.{powers, logarithms, generated, inverse_tables}
use Rattle.polynomials.proofs.Product.{times_below, times_comm, times_assoc, times_one, times_over}

pub ring : RingLaws gf256
ring =
    record {
      sum_below = xor_lt 8;
      prod_below = times_below;
      opp_below = λ x h. h;
      sum_assoc = λ x y z hx hy hz. xor_assoc x y z;
      sum_comm = λ x y hx hy. xor_comm x y;
      sum_zero = λ x h. xor_zero_r x;
      sum_opp = λ x h. xor_self x;
      prod_assoc = times_assoc;
      prod_comm = times_comm;
      prod_one = times_one;
      prod_sum = λ x y z hx hy hz. (times_over.right x).over y z;
    }

-- 3 to the n
abbrev pub three : ℕ → ℕ
three n = power (ops gf256) 3 n

pub three_below : (n : ℕ) → three n < 256
three_below = power_below gf256 ring (lit≤ tt) 3 (lit< tt)

pub three_sum : (m n : ℕ) → three (m + n) ≡ times (three m) (three n)
three_sum = power_sum gf256 ring (lit≤ tt) 3 (lit< tt)

pub powers_are : (i : ℕ) → i < 255 → get_or powers i 0 ≡ three i
powers_are zero h = generated.first
powers_are (suc i) h =
    ap (λ k. get_or powers k 0) (sym (add-one i)) ∙ generated.next i (omega arith) ∙ ap (times 3) (powers_are i (omega arith))

three_cycle : three 255 ≡ 1
three_cycle = ap (times 3) (sym (powers_are 254 (lit< tt))) ∙ generated.last ∙ generated.first

pub three_again : (k : ℕ) → 255 ≤ k → three k ≡ three (k - 255)
three_again k h =
    let e : k ≡ k - 255 + 255 = omega arith in
    ap three e ∙ three_sum (k - 255) 255 ∙ ap (times (three (k - 255))) three_cycle
    ∙ times_one (three (k - 255)) (three_below (k - 255))

pub logarithms_are : (x : ℕ) → 0 < x → x < 256 → (get_or logarithms x 0 < 255) × (three (get_or logarithms x 0) ≡ x)
logarithms_are x pos h = (low, sym (powers_are (get_or logarithms x 0) low) ∙ is)
  where
    is : get_or powers (get_or logarithms x 0) 0 ≡ x
    is = inverse_tables.of_code x pos h

    low : get_or logarithms x 0 < 255
    low =
        ⊎_elim (λ l. l)
        (λ (far : 255 ≤ get_or logarithms x 0).
        absurd
        (omega (arith, is, generated.count, get_or_past powers (get_or logarithms x 0) 0 (omega (arith, generated.count)))))
        (cases_lt (get_or logarithms x 0) 255)

-- the inverse of a power is the power whose exponent makes up 255
pub power_inverse : (x i : ℕ) → three i ≡ x → i < 255 → times x (three (255 - i)) ≡ 1
power_inverse x i e h =
    let all : i + (255 - i) ≡ 255 = omega arith in
    ap (λ y. times y (three (255 - i))) (sym e) ∙ sym (three_sum i (255 - i)) ∙ ap three all ∙ three_cycle

pub field : Lawful gf256
field =
    lawful gf256 ring (lit≤ tt) (lit≤ tt)
    (λ x h nonzero.
    let i : ℕ = get_or logarithms x 0 in
    let l = logarithms_are x (omega arith) h in (three (255 - i), three_below (255 - i), power_inverse x i l.1 l.0))
