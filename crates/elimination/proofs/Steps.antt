-- A vector cleared already, and the inverse as it is read. Assumes nothing.
use Rattle.std.proofs.Common.{◌≡◌, ℕ, ◌<◌, true, List, length, get_or, is_some, Some, Option, sym, refl, ap, ◌∙◌, subst, arith}
use Rattle.std.proofs.lemmas.List.FromFn.{fill_by_all}
use Rattle.std.proofs.ByRecursion.{All-get_or}
use Rattle.field.specs.Algebra.{Algebra, Lawful, inverse}
use Rattle.field.specs.Codes.{AllBelow}
use Rattle.field.proofs.Codes.{elements, elements_ring}
use Rattle.field.proofs.Rings.{opp_nil, nil_prod}
use Rattle.elimination.specs.Vectors.{VectorOver, cleared_by}

-- what is zero at the pivot is cleared already
module _ (A : Algebra) (L : Lawful A) where
  keeps_code : (x r : ℕ) → x < A.size → r < A.size → A.sum x (A.prod (A.opp 0) r) ≡ x
  keeps_code x r b l =
      let R = elements_ring A L in
      let e = ap (λ y. (elements A L).prod y (r, l)) (opp_nil R) ∙ nil_prod R (r, l) in
      ap (A.sum x) (ap (λ y. y.0) e) ∙ L.ring.sum_zero x b

  pub cleared_already :
      (v row : List ℕ) (p : ℕ)
      → AllBelow A.size v
      → VectorOver A (length v) row
      → get_or v p 0 ≡ 0
      → v ≡ cleared_by A (length v) v (p, row)
  cleared_already v row p h k e =
      fill_by_all _ v (length v) 0 refl
      (λ i l.
      sym
      (ap (λ z. A.sum (get_or v i 0) (A.prod (A.opp z) (get_or row i 0))) e
      ∙ keeps_code (get_or v i 0) (get_or row i 0) (All-get_or _ v i 0 l h) (All-get_or _ row i 0 (omega (arith, k.0)) k.1)))

-- the inverse of an element that is not zero, as it is read
module _ (A : Algebra) (L : Lawful A) (x : ℕ) (o : Option ℕ) (b : x < A.size) (ne : x ≡ 0 → ⊥) (e : o ≡ inverse A x) where
  pub inverse_given : is_some o ≡ true
  inverse_given = ap is_some (e ∙ (L.inverse_prod x b ne).1)

  pub inverse_read : (y : ℕ) → o ≡ Some y → (y < A.size) × (A.prod x y ≡ 1)
  inverse_read y r =
      let i = L.inverse_prod x b ne in
      let same : i.0 ≡ y = (let p = i.1 in cc) in
      (subst (λ z. z < A.size) same i.2, subst (λ z. A.prod x z ≡ 1) same i.3)
