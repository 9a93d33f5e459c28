-- The sum of the products of two lists, gathered from the last term to the first, and the last of a list.
use Rattle.std.proofs.Common.{◌≡◌, ℕ, suc, ◌-◌, ◌≤◌, List, [], ◌∷◌, length, get_or, sym, refl, ap, ◌∙◌, arith}
use Rattle.std.specs.Prelude.{reverse}
use Rattle.std.specs.List.{fold, zip}
use Rattle.field.specs.Ops.{Ops, dot}
use Rattle.equivalence.specs.Valuing.{last_or}
use Rattle.entry_vectors.proofs.Backwards.{fold_back, zip_reverse}

module _ (o : Ops ℕ) where
  abbrev terms : List (ℕ × ℕ) → ℕ
  terms [] = o.nil
  terms (p ∷ ps) = o.sum (o.prod p.0 p.1) (terms ps)

  dot_pairs : (xs ys : List ℕ) → dot o xs ys ≡ terms (zip xs ys)
  dot_pairs [] ys = refl
  dot_pairs (x ∷ xs) [] = refl
  dot_pairs (x ∷ xs) (y ∷ ys) = ap (o.sum (o.prod x y)) (dot_pairs xs ys)

  pub dot_gathered :
      (xs ys : List ℕ) (ps : List (ℕ × ℕ))
      → length xs ≡ length ys
      → ps ≡ zip (reverse xs) (reverse ys)
      → fold (λ s p. o.sum (o.prod p.0 p.1) s) o.nil ps ≡ dot o xs ys
  dot_gathered xs ys ps e pairs =
      ap (fold (λ s p. o.sum (o.prod p.0 p.1) s) o.nil) (pairs ∙ zip_reverse xs ys e)
      ∙ fold_back (λ p s. o.sum (o.prod p.0 p.1) s) terms (λ p qs. refl) (zip xs ys)
      ∙ sym (dot_pairs xs ys)

pub last_at : {X : Type 0} (d x : X) (xs : List X) → 1 ≤ length xs → last_or x xs ≡ get_or xs (length xs - 1) d
last_at d x [] h = absurd (omega arith)
last_at d x (y ∷ []) h = refl
last_at d x (y ∷ z ∷ ys) h =
    let e : suc (length (z ∷ ys)) - 1 ≡ suc (length (z ∷ ys) - 1) = omega arith in
    last_at d y (z ∷ ys) (omega arith) ∙ sym (ap (λ i. get_or (y ∷ z ∷ ys) i d) e)
