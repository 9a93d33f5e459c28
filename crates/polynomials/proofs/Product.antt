-- The product of GF(256) is additive in both arguments, so its laws hold once they are computed at the powers of two.
-- Assumes nothing.
use Rattle.std.proofs.Common.{◌≡◌, ℕ, zero, suc, ◌+◌, ◌*◌, ◌/◌, ◌%◌, ◌^◌, ◌<◌, sym, refl, ap, ◌∙◌, subst, mod-lt, one-mul, zero-mul, arith, lit<}
use lib.Bits.{bit_xor, xor_self, xor_zero_r, xor_shr, xor_mod}
use Rattle.polynomials.specs.Polynomials.{coefficient, carryless, modulus, remainder, times}
use Rattle.polynomials.proofs.Additive.{Additive, Biadditive, identity, compose, add, shift, at_zero, lift, lift_both}
use Rattle.polynomials.proofs.Agree.{agree, agree_both, agree_three}

bit : (p i : ℕ) → coefficient p i < 2
bit p i = mod-lt (p / 2 ^ i) (lit< tt)

scale : (c : ℕ) → c < 2 → Additive (λ x. c * x)
scale zero h = record { over = λ x y. simp zero-mul }
scale (suc zero) h = record { over = λ x y. simp one-mul }
scale (suc (suc c)) h = absurd (omega arith)

bit_times : (c d k : ℕ) → c < 2 → d < 2 → bit_xor c d * k ≡ bit_xor (c * k) (d * k)
bit_times zero d k hc hd = rw zero-mul refl
bit_times (suc zero) zero k hc hd = rw zero-mul (sym (xor_zero_r (1 * k)))
bit_times (suc zero) (suc zero) k hc hd = zero-mul k ∙ sym (xor_self (1 * k))
bit_times (suc zero) (suc (suc d)) k hc hd = absurd (omega arith)
bit_times (suc (suc c)) d k hc hd = absurd (omega arith)

coefficient_times : (i k : ℕ) → Additive (λ p. coefficient p i * k)
coefficient_times i k =
    record {
      over = λ x y. ap (λ z. z % 2 * k) (xor_shr x y i) ∙ ap (λ z. z * k) (xor_mod (x / 2 ^ i) (y / 2 ^ i) 1)
          ∙ bit_times (coefficient x i) (coefficient y i) k (bit x i) (bit y i);
    }

carryless_left : (n q : ℕ) → Additive (λ p. carryless n p q)
carryless_left zero q = record { over = λ x y. refl }
carryless_left (suc n) q = add (carryless_left n q) (compose (scale (coefficient q n) (bit q n)) (shift n))

carryless_right : (n p : ℕ) → Additive (carryless n p)
carryless_right zero p = record { over = λ x y. refl }
carryless_right (suc n) p = add (carryless_right n p) (coefficient_times n (p * 2 ^ n))

remainder_over : (n : ℕ) → Additive (remainder n)
remainder_over zero = identity
remainder_over (suc n) = compose (remainder_over n) (add identity (coefficient_times (8 + n) (modulus * 2 ^ n)))

pub times_over : Biadditive times
unfolding times
times_over =
    record {
      left = λ b. compose (remainder_over 8) (carryless_left 8 b);
      right = λ a. compose (remainder_over 8) (carryless_right 8 a);
    }

pub zero_times : (b : ℕ) → times 0 b ≡ 0
zero_times b = at_zero (times_over.left b)

pub times_zero : (a : ℕ) → times a 0 ≡ 0
times_zero a = at_zero (times_over.right a)

pub times_one : (x : ℕ) → x < 256 → times x 1 ≡ x
unfolding times
times_one = lift (times_over.left 1) identity 8 (agree _ _ 8 refl)

pub times_comm : (x y : ℕ) → x < 256 → y < 256 → times x y ≡ times y x
unfolding times
times_comm =
    lift_both times_over (record { left = times_over.right; right = times_over.left }) 8 (agree_both _ _ 8 refl)

-- the product is its own remainder modulo 256
pub times_below : (x y : ℕ) → x < 256 → y < 256 → times x y < 256
unfolding times
times_below x y hx hy =
    subst (λ z. z < 256) (lift_both low times_over 8 (agree_both _ _ 8 refl) x y hx hy) (mod-lt (times x y) (lit< tt))
  where
    byte : Additive (λ z. z % 256)
    byte = record { over = λ a b. xor_mod a b 8 }

    low : Biadditive (λ a b. times a b % 256)
    low =
        record {
          left = λ b. compose byte (times_over.left b);
          right = λ a. compose byte (times_over.right a);
        }

assoc_powers :
    (i : ℕ)
    → i < 8
    → (j : ℕ)
    → j < 8
    → (k : ℕ)
    → k < 8
    → times (times (2 ^ i) (2 ^ j)) (2 ^ k) ≡ times (2 ^ i) (times (2 ^ j) (2 ^ k))
unfolding times
assoc_powers = agree_three _ _ 8 refl

pub times_assoc : (x y z : ℕ) → x < 256 → y < 256 → z < 256 → times (times x y) z ≡ times x (times y z)
times_assoc x y z hx hy hz =
    lift_both left_first right_first 8
    (λ i hi j hj.
    lift (times_over.right (times (2 ^ i) (2 ^ j))) (compose (times_over.right (2 ^ i)) (times_over.right (2 ^ j))) 8
    (assoc_powers i hi j hj) z hz)
    x y hx hy
  where
    left_first : Biadditive (λ a b. times (times a b) z)
    left_first =
        record {
          left = λ b. compose (times_over.left z) (times_over.left b);
          right = λ a. compose (times_over.left z) (times_over.right a);
        }

    right_first : Biadditive (λ a b. times a (times b z))
    right_first =
        record {
          left = λ b. times_over.left (times b z);
          right = λ a. compose (times_over.right a) (times_over.left z);
        }
