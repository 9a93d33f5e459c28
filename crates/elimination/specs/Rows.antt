-- What a row stands for.
use Rattle.std.specs.Prelude.{ℕ, ◌<◌, List, take}
use Rattle.field.specs.Algebra.{Algebra}
use Rattle.elimination.specs.Vectors.{VectorOver}
use Rattle.elimination.specs.declared.Row.{Row}

-- its pivot, and the n codes that count
abbrev pub row_of : ℕ → Row → (p : ℕ) × List ℕ
row_of n r = (r.pivot, take n r.codes)

-- it can clear vectors of n places
abbrev pub Clears : Algebra → ℕ → Row → Type 0
Clears A n r = (r.pivot < n) × VectorOver A n (take n r.codes)
