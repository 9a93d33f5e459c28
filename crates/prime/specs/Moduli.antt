-- The moduli of the prime fields, and what a prime is.
use Rattle.std.specs.Prelude.{ℕ, ◌%◌, ◌<◌, ◌≤◌, Bool, false, ◌||◌, List, [], ◌∷◌, ◌==◌, ◌≢◌}

-- p is prime: it is at least 2, and no d with 2 ≤ d < p divides it.
pub record IsPrime (p : ℕ) : Type 0 where
  pub least : 2 ≤ p
  pub undivided : (d : ℕ) → 2 ≤ d → d < p → p % d ≢ 0

-- whether n stands in the list
abbrev pub among : List ℕ → ℕ → Bool
among [] n = false
among (m ∷ ms) n = n == m || among ms n

-- The four least primes, the largest below 2^16, and the two largest below 2^32.
abbrev pub moduli : List ℕ
moduli = 2 ∷ 3 ∷ 5 ∷ 7 ∷ 65521 ∷ 4294967279 ∷ 4294967291 ∷ []

-- whether a field has this modulus
abbrev pub admitted : ℕ → Bool
admitted = among moduli
