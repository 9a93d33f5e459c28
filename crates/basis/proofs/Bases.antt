-- Elimination by the rows of a basis. Assumes nothing.
use Rattle.std.proofs.Common.{◌≡◌, ℕ, ◌+◌, ◌<◌, true, false, List, [], ◌∷◌, ◌++◌, map, length, get_or, take, Some, sym, refl, ap, ◌∙◌, subst, ap₂, subst₂, arith}
use Rattle.std.specs.List.{AllByRecursion}
use Rattle.std.proofs.lemmas.List.{length-map, length_push}
use Rattle.field.specs.Algebra.{Algebra, Lawful, ops}
use Rattle.equivalence.specs.Spans.{SumOfMultiples}
use Rattle.equivalence.proofs.Elimination as elimination
use Rattle.equivalence.proofs.Elimination.{
  EchelonCodes,
  SameSums,
  code_at,
  vectors,
  new_row,
  reduced_coded,
  same_sums_iff,
  codes_few,
  codes_reduce_to_zero,
  codes_more,
  codes_kept,
}
use Rattle.elimination.specs.Vectors.{VectorOver, ZeroBelow, Normalized, reduced_by, scaled_by}
use Rattle.elimination.specs.Rows.{row_of, Clears}
use Rattle.elimination.specs.declared.Row.{Row}
use Rattle.basis.specs.Bases.{Echelon, pivoted_rows, rows_of, BasisFor, Insertable, Inserts}
use Rattle.basis.specs.declared.Basis.{Basis}
use Rattle.table.specs.Items.{items_of}

-- a basis as elimination has it
to_echelon : (A : Algebra) (n : ℕ) (rows : List ((p : ℕ) × List ℕ)) → Echelon n rows → elimination.Echelon (ops A) code_at n rows
to_echelon A n [] h = tt
to_echelon A n (x ∷ rows) h = (h.0, h.1, h.2, to_echelon A n rows h.3)

from_echelon : (A : Algebra) (n : ℕ) (rows : List ((p : ℕ) × List ℕ)) → elimination.Echelon (ops A) code_at n rows → Echelon n rows
from_echelon A n [] h = tt
from_echelon A n (x ∷ rows) h = (h.0, h.1, h.2, from_echelon A n rows h.3)

module _ (A : Algebra) (D : ℕ) (kept : List (List ℕ)) (b : Basis) where
  echelon_of : BasisFor A D kept b → EchelonCodes A D (pivoted_rows b)
  echelon_of h = record { coded = h.rows; echelon = to_echelon A D (pivoted_rows b) h.echelon }

  sums_of : BasisFor A D kept b → SameSums A D (vectors (pivoted_rows b)) kept
  sums_of h = record { left = h.rows; right = h.vectors; of_left = h.of_rows; of_right = h.of_kept }

  basis_from :
      (rows : List ((p : ℕ) × List ℕ))
      → pivoted_rows b ≡ rows
      → b.width ≡ D
      → length rows ≡ length kept
      → EchelonCodes A D rows
      → SameSums A D (vectors rows) kept
      → BasisFor A D kept b
  basis_from rows e w l E S =
      let F = subst (EchelonCodes A D) (sym e) E in
      let T = subst (λ xs. SameSums A D (vectors xs) kept) (sym e) S in
      record {
        width = w;
        count = length-map (pivoted_rows b) (λ x. x.1) ∙ ap length e ∙ l;
        vectors = T.right;
        rows = F.coded;
        echelon = from_echelon A D (pivoted_rows b) F.echelon;
        of_rows = T.of_left;
        of_kept = T.of_right;
      }

-- the rows of a basis can clear vectors of its width
clears :
    (A : Algebra) (m n : ℕ) (rows : List Row)
    → m ≡ n
    → AllByRecursion (VectorOver A n) (vectors (map (row_of m) rows))
    → Echelon n (map (row_of m) rows)
    → AllByRecursion (Clears A n) rows
clears A m n [] e h k = tt
clears A m n (r ∷ rows) e h k =
    ((k.0, subst (λ i. VectorOver A n (take i r.codes)) e h.0), clears A m n rows e h.1 k.3)

pub insertable_clears :
    (A : Algebra) (b : Basis) (rows : List Row) (v copy : List ℕ)
    → rows ≡ items_of b.rows
    → copy ≡ v
    → Insertable A b v
    → AllByRecursion (Clears A (length copy)) rows
insertable_clears A b rows v copy are copied s =
    let h = s.2 in
    subst₂ (λ n xs. AllByRecursion (Clears A n) xs) (sym (ap length copied ∙ s.3.0)) (sym are)
    (clears A b.width s.0 (items_of b.rows) h.width h.rows h.echelon)

-- What is left of a copy of a vector, w, decides whether the vector is kept.
module _
    (A : Algebra) (L : Lawful A) (b : Basis) (rows : List Row) (v copy w : List ℕ) (are : rows ≡ items_of b.rows) (copied : copy ≡ v)
    (reads : w ≡ reduced_by A (length copy) (map (row_of (length copy)) rows) copy) where
  module _ (D : ℕ) (kept : List (List ℕ)) (h : BasisFor A D kept b) (k : VectorOver A D v) where
    E : EchelonCodes A D (pivoted_rows b)
    E = echelon_of A D kept b h

    reduces : w ≡ reduced_by A D (pivoted_rows b) v
    reduces =
        reads ∙ ap₂ (λ xs x. reduced_by A (length x) (map (row_of (length x)) xs) x) are copied
        ∙ ap₂ (λ n m. reduced_by A n (map (row_of m) (items_of b.rows)) v) k.0 (k.0 ∙ sym h.width)

    long : length w ≡ D
    long = ap length reduces ∙ (reduced_coded A L D (pivoted_rows b) v E.coded k).0

    depends : ZeroBelow (length w) w → SumOfMultiples A D kept v
    depends z =
        (same_sums_iff A L D (rows_of b) kept v k (sums_of A D kept b h)).0
        ((codes_reduce_to_zero A L D (pivoted_rows b) E v k).0
        (λ i l. ap (λ u. get_or u i 0) (sym reduces) ∙ z i (omega (arith, long))))

    module _ (p : ℕ) (u : List ℕ) (n : Normalized A w (Some p) u) where
      apart : SumOfMultiples A D kept v → ⊥
      apart s =
          n.0.2
          (ap (λ x. get_or x p 0) reduces
          ∙ (codes_reduce_to_zero A L D (pivoted_rows b) E v k).1
          ((same_sums_iff A L D (rows_of b) kept v k (sums_of A D kept b h)).1 s) p (omega (arith, n.0.0, long)))

      abbrev y : ℕ
      y = n.1.0

      abbrev longer : List ((p : ℕ) × List ℕ)
      longer = pivoted_rows b ++ (new_row A D (pivoted_rows b) v p y ∷ [])

      within : p < D
      within = omega (arith, n.0.0, long)

      one : A.prod (get_or (reduced_by A D (pivoted_rows b) v) p 0) y ≡ 1
      one = ap (λ x. A.prod (get_or x p 0) y) (sym reduces) ∙ n.1.2

      scales : u ≡ scaled_by A D y (reduced_by A D (pivoted_rows b) v)
      scales = n.1.3 ∙ ap₂ (λ m x. scaled_by A m y x) long reduces

      more : EchelonCodes A D longer
      more = codes_more A L D (pivoted_rows b) E v k p y within n.1.1 one

      counts : length (pivoted_rows b) ≡ length kept
      counts = sym (length-map (pivoted_rows b) (λ x. x.1)) ∙ h.count

      room : length kept < D
      room =
          let few = codes_few A L D longer more in
          let l = length_push (pivoted_rows b) (new_row A D (pivoted_rows b) v p y) in omega (arith, few, l, counts)

      keeps :
          (after : Basis)
          → after.width ≡ b.width
          → pivoted_rows after ≡ pivoted_rows b ++ ((p, u) ∷ [])
          → BasisFor A D (kept ++ (v ∷ [])) after
      keeps after e rows =
          basis_from A D (kept ++ (v ∷ [])) after longer
          (rows ∙ ap (λ x. pivoted_rows b ++ ((p, x) ∷ [])) scales)
          (e ∙ h.width)
          (length_push (pivoted_rows b) (new_row A D (pivoted_rows b) v p y) ∙ ap (λ m. m + 1) counts ∙ sym (length_push kept v)) more
          (codes_kept A L D (pivoted_rows b) E v k p y within n.1.1 one kept (sums_of A D kept b h))

  pub left_out : ZeroBelow (length w) w → Inserts A b v false b
  left_out z D kept h k = (depends D kept h k z, refl)

  module _ (p : ℕ) (u : List ℕ) (n : Normalized A w (Some p) u) where
    pub taken_in :
        (after : Basis) (codes : List ℕ)
        → after.width ≡ b.width
        → pivoted_rows after ≡ pivoted_rows b ++ ((p, codes) ∷ [])
        → codes ≡ u
        → Inserts A b v true after
    taken_in after codes e more same D kept h k = (
      apart D kept h k p u n,
      room D kept h k p u n,
      keeps D kept h k p u n after e (more ∙ ap (λ x. pivoted_rows b ++ ((p, x) ∷ [])) same),
    )

    -- so there is room for its row
    pub row_fits : Insertable A b v → length (items_of b.rows) < 24
    row_fits s =
        let few = room s.0 s.1 s.2 s.3 p u n in
        let same = counts s.0 s.1 s.2 s.3 p u n in
        let long = length-map (items_of b.rows) (row_of b.width) in
        let w = s.2.width in omega (arith, few, same, long, w)
