-- The residues modulo a prime are a field. Assumes nothing.
use Rattle.std.specs.Prelude.{◌≡◌, ℕ, zero, suc, ◌+◌, ◌-◌, ◌*◌, ◌/◌, ◌%◌, ◌^◌, ◌<◌, ◌≤◌, Some, None, ◌≢◌}
use Rattle.std.proofs.Common.{sym, ap, ◌∙◌, ⊎_elim, mul_comm, one-mul, mul_right_comm, mod-lt, mod-eq_of_lt, div-le_self, lt_trans, pos_of_ne-zero, sub-add_cancel, arith}
use Rattle.std.proofs.Math.Nat.{mod-add-div, add-mul-mod_self_left}
use Rattle.std.proofs.lemmas.Bool.{cases_eq}
use Rattle.field.specs.Algebra.{RingLaws, Lawful, inverse}
use Rattle.field.proofs.Inverse.{lawful, inverse_is, inverse_of_zero}
use Rattle.prime.specs.Moduli.{IsPrime}
use Rattle.prime.specs.Residues.{residues}
use Rattle.prime.specs.ResiduesLemmas.{mod_mul_mod, residue_ring}

cofactor : (s q r y : ℕ) → r + suc y * q ≡ s + q → suc y * s ≡ r + (s + q) * y
cofactor s q r y e = omega arith

-- Multiplied by the negative of the quotient of p by x, x becomes the remainder.
descends : (p x : ℕ) → 0 < x → x < p → (x * (p - p / x)) % p ≡ p % x
descends p zero pos below = absurd (omega arith)
descends p (suc y) pos below =
    let q = p / suc y in
    let r = p % suc y in
    let whole : p - q + q ≡ p = sub-add_cancel (div-le_self p (suc y)) in
    let split = cofactor (p - q) q r y (mod-add-div p (suc y) ∙ sym whole) in
    let small : r < p = lt_trans (mod-lt p pos) below in
    ap (λ n. n % p) (split ∙ ap (λ n. r + n * y) whole) ∙ add-mul-mod_self_left r p y ∙ mod-eq_of_lt small

-- One turn of the descent: if m * a is x modulo p, then m times that negative makes it the remainder.
pub turn : (p a m x : ℕ) → 0 < x → x < p → (m * a) % p ≡ x → ((m * (p - p / x)) % p * a) % p ≡ p % x
turn p a m x pos below e =
    let s = p - p / x in
    rw (mod_mul_mod, mul_right_comm m s a, ← mod_mul_mod (m * a) s p, e) (descends p x pos below)

module _ (p : ℕ) (prime : IsPrime p) where
  pub remainder_pos : (x : ℕ) → 0 < x → (x ≢ 1) → x < p → 0 < p % x
  remainder_pos x pos ne below = pos_of_ne-zero (prime.undivided x (omega arith) below)

  -- the remainders fall, and reach no zero before they reach one
  descent :
      (n a m x : ℕ) → x < n → 0 < x → x < p → m < p → (m * a) % p ≡ x → (y : ℕ) × (y < p) × ((a * y) % p ≡ 1)
  descent zero a m x fuel pos below hm e = absurd (omega arith)
  descent (suc n) a m x fuel pos below hm e =
      ⊎_elim (λ (one : x ≡ 1). (m, hm, ap (λ k. k % p) (mul_comm a m) ∙ e ∙ one))
      (λ (ne : x ≡ 1 → ⊥).
      let less = mod-lt p pos in
      descent n a ((m * (p - p / x)) % p) (p % x) (omega arith) (remainder_pos x pos ne below) (omega arith) (mod-lt _ (omega arith))
      (turn p a m x pos below e))
      (cases_eq x 1)

  has_inverse : (x : ℕ) → x < p → (x ≢ 0) → (y : ℕ) × (y < p) × ((x * y) % p ≡ 1)
  has_inverse x below ne =
      descent (suc x) x 1 x (omega arith) (pos_of_ne-zero ne) below prime.least (rw one-mul (mod-eq_of_lt below))

  ring : RingLaws (residues p)
  ring = residue_ring p prime.least

  pub residue_field : p ≤ 2 ^ 32 → Lawful (residues p)
  residue_field most = lawful (residues p) ring prime.least most has_inverse

  pub no_inverse : inverse (residues p) 0 ≡ None
  no_inverse = inverse_of_zero (residues p) ring prime.least

  pub inverse_found : (a m : ℕ) → a < p → m < p → (m * a) % p ≡ 1 → inverse (residues p) a ≡ Some m
  inverse_found a m ha hm e =
      inverse_is (residues p) ring prime.least a m ha hm (ap (λ k. k % p) (mul_comm a m) ∙ e)
