-- The numbers of the sides.
use Rattle.std.specs.Prelude.{◌≡◌, ℕ, ◌<◌, Result, MatchResult}
use Rattle.refusals.specs.declared.Refusal.{Refusal}
use Rattle.refusals.specs.declared.Refusal.TheVariants.{NoSuchSide}
use Rattle.side.specs.declared.Side.{Side}
use Rattle.side.specs.declared.Side.TheVariants.{A, B}

abbrev pub number : Side → ℕ
number A = 0
number B = 1

abbrev pub NumberOf : Side → ℕ → Type 0
NumberOf s n = n ≡ number s

-- a number read as a side: 0 and 1 are the numbers of sides, and no others
abbrev pub Numbered : ℕ → Result Side Refusal → Type 0
Numbered n r = MatchResult r (λ s. number s ≡ n) (λ e. (1 < n) × (e ≡ NoSuchSide))
