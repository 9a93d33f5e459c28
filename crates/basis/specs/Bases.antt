-- What a basis stands for.
use Rattle.std.specs.Prelude.{◌≡◌, ℕ, ◌<◌, Bool, true, false, List, [], ◌∷◌, ◌++◌, map, length, slice_index}
use Rattle.std.specs.List.{AllByRecursion}
use Rattle.field.specs.Algebra.{Algebra}
use Rattle.equivalence.specs.Spans.{SumOfMultiples}
use Rattle.elimination.specs.Vectors.{VectorOver}
use Rattle.elimination.specs.Rows.{row_of}
use Rattle.table.specs.Items.{items_of}
use Rattle.basis.specs.declared.Basis.{Basis}

abbrev pub pivoted_rows : Basis → List ((p : ℕ) × List ℕ)
pivoted_rows b = map (row_of b.width) (items_of b.rows)

abbrev pub rows_of : Basis → List (List ℕ)
rows_of b = map (λ x. x.1) (pivoted_rows b)

-- Each row is one at its pivot, which is below n, and there each later row is zero.
abbrev pub Echelon : ℕ → List ((p : ℕ) × List ℕ) → Type 0
Echelon n [] = Unit {0}
Echelon n (x ∷ rows) =
    (x.0 < n) × (slice_index x.1 x.0 ≡ 1) × AllByRecursion (λ y. slice_index y.1 x.0 ≡ 0) rows × Echelon n rows

-- The basis is one of the kept vectors, which have D places: as many rows, in echelon form, and each kept vector is a sum
-- of multiples of the rows, and each row one of the kept vectors.
pub record BasisFor (A : Algebra) (D : ℕ) (kept : List (List ℕ)) (b : Basis) : Type 0 where
  pub width : b.width ≡ D
  pub count : length (rows_of b) ≡ length kept
  pub vectors : AllByRecursion (VectorOver A D) kept
  pub rows : AllByRecursion (VectorOver A D) (rows_of b)
  pub echelon : Echelon D (pivoted_rows b)
  pub of_rows : AllByRecursion (SumOfMultiples A D (rows_of b)) kept
  pub of_kept : AllByRecursion (SumOfMultiples A D kept) (rows_of b)

-- the basis is one of some vectors, and the vector has their places
abbrev pub Insertable : Algebra → Basis → List ℕ → Type 0
Insertable A b v = (D : ℕ) × (kept : List (List ℕ)) × BasisFor A D kept b × VectorOver A D v

-- What inserting a vector does: it is kept exactly where it is no sum of multiples of those kept before, and then there
-- was room for it; where it is one, the basis is as it was.
abbrev pub Inserted : Algebra → ℕ → List (List ℕ) → List ℕ → Basis → Bool → Basis → Type 0
Inserted A D kept v before true after =
    (SumOfMultiples A D kept v → ⊥) × (length kept < D) × BasisFor A D (kept ++ (v ∷ [])) after
Inserted A D kept v before false after = SumOfMultiples A D kept v × (after ≡ before)

-- so whatever vectors the basis was one of
abbrev pub Inserts : Algebra → Basis → List ℕ → Bool → Basis → Type 0
Inserts A before v r after =
    (D : ℕ) (kept : List (List ℕ)) → BasisFor A D kept before → VectorOver A D v → Inserted A D kept v before r after
