-- Powers of a code under the ring laws of an algebra. Assumes nothing.
use Rattle.std.proofs.Common.{◌≡◌, ℕ, zero, suc, ◌+◌, ◌<◌, ◌≤◌, sym, refl, ap, ◌∙◌, subst, ap₂}
use Rattle.field.specs.Ops.{power}
use Rattle.field.specs.Algebra.{Algebra, RingLaws, ops}
use Rattle.field.proofs.Codes.{Code, carrier, carrier_ring}
use Rattle.field.proofs.Rings.{power_add}

module _ (A : Algebra) (L : RingLaws A) (two : 2 ≤ A.size) where
  -- powers on the carrier of codes below the size are powers of codes
  power_code : (x : Code A.size) (n : ℕ) → (power (carrier A L two) x n).0 ≡ power (ops A) x.0 n
  power_code x zero = refl
  power_code x (suc n) = ap (A.prod x.0) (power_code x n)

  module _ (x : ℕ) (hx : x < A.size) where
    pub power_below : (n : ℕ) → power (ops A) x n < A.size
    power_below n = subst (λ y. y < A.size) (power_code (x, hx) n) (power (carrier A L two) (x, hx) n).1

    pub power_sum : (m n : ℕ) → power (ops A) x (m + n) ≡ A.prod (power (ops A) x m) (power (ops A) x n)
    power_sum m n =
        sym (power_code (x, hx) (m + n)) ∙ ap (λ c. c.0) (power_add (carrier_ring A L two) (x, hx) m n)
        ∙ ap₂ A.prod (power_code (x, hx) m) (power_code (x, hx) n)
