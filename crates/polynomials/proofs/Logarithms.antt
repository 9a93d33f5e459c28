-- The two tables as lists that are computed, and their rules, each by one computed test over the whole table.
-- Assumes nothing.
use Rattle.std.proofs.Common.{◌≡◌, ℕ, zero, suc, ◌<◌, cond, eqb, List, [], ◌∷◌, get_or, refl, arith}
use Rattle.polynomials.specs.Polynomials.{times}
use Rattle.polynomials.specs.Tables.{Generated, InverseTables}
use Rattle.polynomials.proofs.Agree.{table, agree}

abbrev powers_from : ℕ → ℕ → List ℕ
powers_from zero x = []
powers_from (suc n) x = x ∷ powers_from n (times 3 x)

unfoldable pub powers : List ℕ
unfolding times
powers = powers_from 255 1

-- the place of x in the list, which is its length where x is not in it
abbrev place : ℕ → List ℕ → ℕ
place x [] = 0
place x (y ∷ ys) = cond (eqb x y) 0 (suc (place x ys))

unfoldable pub logarithms : List ℕ
unfolding powers
logarithms = table 256 (λ x. place x powers)

pub generated : Generated powers
unfolding powers
generated =
    record {
      count = refl;
      first = refl;
      next = agree _ _ 254 refl;
      last = refl;
    }

nonzero : (k : ℕ) → k < 255 → get_or powers (get_or logarithms (suc k) 0) 0 ≡ suc k
unfolding logarithms
nonzero = agree _ _ 255 refl

of_code : (x : ℕ) → 0 < x → x < 256 → get_or powers (get_or logarithms x 0) 0 ≡ x
of_code zero l h = absurd (omega arith)
of_code (suc k) l h = nonzero k (omega arith)

pub inverse_tables : InverseTables powers logarithms
unfolding logarithms
inverse_tables =
    record {
      of_power = agree _ _ 255 refl;
      of_code = of_code;
      of_zero = refl;
    }
