-- Sums of multiples of vectors. A vector is a list of elements, and all have the same length.
use Rattle.std.specs.Prelude.{◌≡◌, ℕ, ◌<◌, List, map, length, slice_index}
use Rattle.std.specs.List.{AllByRecursion}
use Rattle.field.specs.Algebra.{Algebra, ops}
use Rattle.field.specs.Ops.{dot}

-- Over a field on codes, v is a sum of multiples of vs: there are elements, one for each vector of vs, such that at each
-- place below the length n v has the sum of the vectors' entries there, each times its element.
abbrev pub Combination : Algebra → ℕ → List (List ℕ) → List ℕ → List ℕ → Type 0
Combination A n vs cs v =
    (length cs ≡ length vs) × AllByRecursion (λ c. c < A.size) cs
    × ((i : ℕ) → i < n → slice_index v i ≡ dot (ops A) cs (map (λ w. slice_index w i) vs))

abbrev pub SumOfMultiples : Algebra → ℕ → List (List ℕ) → List ℕ → Type 0
SumOfMultiples A n vs v = (cs : List ℕ) × Combination A n vs cs v
