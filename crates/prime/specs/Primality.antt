-- The admitted moduli are prime, by trial division that antt computes. Assumes nothing.
use Rattle.std.specs.Prelude.{◌≡◌, ℕ, zero, suc, ◌+◌, ◌-◌, ◌*◌, ◌/◌, ◌%◌, ◌^◌, ◌<◌, ◌≤◌, min, Bool, true, false, cond, ◌&&◌, leb, List, [], ◌∷◌, ◌≢◌, nat_eq, nat_le, nat_lt, refl}
use Rattle.std.proofs.Common.{sym, ap, ◌∙◌, ⊎_elim, mul-le-mul, arith}
use Rattle.std.proofs.Math.Nat.{dvd_of_mod-eq-zero, mul-div_cancel', mul-mod_left, lt_of_mul-lt-mul_left}
use Rattle.std.specs.List.{list_all}
use Rattle.std.proofs.lemmas.Bool.{and_parts, or_cases, eqb-true, leb-true, ltb-true, false≢true}
use Rattle.prime.specs.Moduli.{IsPrime, among, moduli, admitted}

abbrev nonzero : ℕ → Bool
nonzero zero = false
nonzero (suc n) = true

-- none of the k numbers from 2 on divides p
abbrev undivided_by : ℕ → ℕ → Bool
undivided_by p zero = true
undivided_by p (suc k) = nonzero (p % (k + 2)) && undivided_by p k

-- how many divisors are tried: as far as the root of a number of 16 or of 32 bits, and short of p itself
abbrev tries : ℕ → ℕ
tries p = cond (nat_lt p (2 ^ 16)) (min (p - 2) (2 ^ 8 - 2)) (2 ^ 16 - 2)

abbrev tried : ℕ → ℕ → Bool
tried p k = nat_le 2 p && (nat_lt p ((k + 2) * (k + 2)) && undivided_by p k)

undivided_below : (p k : ℕ) → undivided_by p k ≡ true → (d : ℕ) → 2 ≤ d → d < k + 2 → p % d ≢ 0
undivided_below p zero t d two l e = omega arith
undivided_below p (suc k) t d two l e =
    let h = and_parts _ _ t in
    let here : d ≡ k + 2 → ⊥ = λ s. false≢true (sym (ap nonzero (rw s at e)) ∙ h.0) in
    undivided_below p k h.1 d two (omega arith) e

-- Of a divisor and its quotient one is at most the root.
by_trial : (p k : ℕ) → tried p k ≡ true → IsPrime p
by_trial p k t =
    let h = and_parts _ _ t in
    let r = and_parts _ _ h.1 in
    let root = ltb-true p _ r.0 in
    let none = undivided_below p k r.1 in
    record {
      least = leb-true 2 p h.0;
      undivided = λ d two l e.
          let whole = mul-div_cancel' d (dvd_of_mod-eq-zero d e) in
          let more : 1 < p / d = lt_of_mul-lt-mul_left d (omega arith) in
          let left : p % (p / d) ≡ 0 = ap (λ n. n % (p / d)) (sym whole) ∙ mul-mod_left d (p / d) in
          let near : d < k + 2 → ⊥ = λ b. none d two b e in
          let far : p / d < k + 2 → ⊥ = λ b. none (p / d) more b left in
          let big : (k + 2) * (k + 2) ≤ d * (p / d) = mul-le-mul (omega arith) (omega arith) in
          omega arith;
    }

among_passes : (f : ℕ → Bool) (ms : List ℕ) → list_all f ms ≡ true → (n : ℕ) → among ms n ≡ true → f n ≡ true
among_passes f [] h n t = absurd (false≢true t)
among_passes f (m ∷ ms) h n t =
    let k = and_parts _ _ h in
    ⊎_elim (λ (e : nat_eq n m ≡ true). ap f (eqb-true n m e) ∙ k.0)
    (λ (r : among ms n ≡ true). among_passes f ms k.1 n r)
    (or_cases _ _ t)

pub admitted_prime : (p : ℕ) → admitted p ≡ true → IsPrime p
admitted_prime p h = by_trial p (tries p) (among_passes (λ n. tried n (tries n)) moduli refl p h)

pub admitted_fits : (p : ℕ) → admitted p ≡ true → p ≤ 2 ^ 32
admitted_fits p h = leb-true p _ (among_passes (λ n. leb n (2 ^ 32)) moduli refl p h)
