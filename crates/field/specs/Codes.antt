-- Lists of codes.
use Rattle.std.specs.Prelude.{ℕ, ◌<◌, List}
use Rattle.std.specs.List.{AllByRecursion}

-- each number is below q, as the codes of a field of q elements are
abbrev pub AllBelow : ℕ → List ℕ → Type 0
AllBelow q xs = AllByRecursion (λ x. x < q) xs

-- and so in each of the lists
abbrev pub Codes : ℕ → List (List ℕ) → Type 0
Codes q vs = AllByRecursion (AllBelow q) vs
