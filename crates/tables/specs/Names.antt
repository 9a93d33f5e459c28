-- Looking up a name.
use Rattle.std.specs.Prelude.{◌≡◌, ℕ, List, Option, MatchOption}
use Rattle.format.specs.Reading.{Declared, Undeclared, number_of}

-- the number of a name among some, where it is one of them
abbrev pub Finds : List (List ℕ) → List ℕ → Option ℕ → Type 0
Finds names x r = MatchOption r (Undeclared names x) (λ n. Declared names x × (n ≡ number_of names x))
