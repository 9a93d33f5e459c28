-- Elimination on vectors of codes. A row is a place, its pivot, with a vector.
use Rattle.std.specs.Prelude.{◌≡◌, ℕ, ◌<◌, List, map, length, Some, None, fold, Option, ◌≢◌, slice_index}
use Rattle.std.specs.List.{range_with_len}
use Rattle.field.specs.Algebra.{Algebra}
use Rattle.field.specs.Codes.{AllBelow}

-- n codes of the field
abbrev pub VectorOver : Algebra → ℕ → List ℕ → Type 0
VectorOver A n v = (length v ≡ n) × AllBelow A.size v

-- v less the multiple of a row that leaves zero at the row's pivot, where the row is one
abbrev pub cleared_by : Algebra → ℕ → List ℕ → ((p : ℕ) × List ℕ) → List ℕ
cleared_by A n v x =
    map (λ i. A.sum (slice_index v i) (A.prod (A.opp (slice_index v x.0)) (slice_index x.1 i))) (range_with_len 0 n)

-- and so by each row, in order
abbrev pub reduced_by : Algebra → ℕ → List ((p : ℕ) × List ℕ) → List ℕ → List ℕ
reduced_by A n rows v = fold (cleared_by A n) v rows

abbrev pub scaled_by : Algebra → ℕ → ℕ → List ℕ → List ℕ
scaled_by A n c v = map (λ i. A.prod c (slice_index v i)) (range_with_len 0 n)

-- zero at each place below n
abbrev pub ZeroBelow : ℕ → List ℕ → Type 0
ZeroBelow n v = (i : ℕ) → i < n → slice_index v i ≡ 0

-- The first place where v is not zero, if there is one.
abbrev pub Leads : List ℕ → Option ℕ → Type 0
Leads v None = ZeroBelow (length v) v
Leads v (Some p) = (p < length v) × ZeroBelow p v × (slice_index v p ≢ 0)

-- What is left of v, scaled so that it is one at its first place that is not zero; zero is left as it is.
abbrev pub Normalized : Algebra → List ℕ → Option ℕ → List ℕ → Type 0
Normalized A v None w = Leads v None × (w ≡ v)
Normalized A v (Some p) w =
    Leads v (Some p)
    × ((y : ℕ) × (y < A.size) × (A.prod (slice_index v p) y ≡ 1) × (w ≡ scaled_by A (length v) y v))
