-- Equal maps, lists made from facts on each element, and places of the numbers 1 to n. Assumes nothing.
use Rattle.std.proofs.Common.{◌≡◌, ℕ, zero, suc, ◌-◌, ◌≤◌, List, [], ◌∷◌, map, length, get_or, sym, refl, ap, ◌∙◌, ap₂, ⊎_elim, arith}
use Rattle.std.specs.List.{AllByRecursion}
use Rattle.std.proofs.lemmas.List.{get_or_push, get_or_append_left}
use Rattle.std.proofs.lemmas.Bool.{cases_eq}
use Rattle.equivalence.specs.Automata.{numbers}
use Rattle.equivalence.proofs.Members.{length_numbers}

module _ {X Y : Type 0} (f : X → Y) where
  pub map_same : (g : X → Y) (xs : List X) → AllByRecursion (λ x. f x ≡ g x) xs → map f xs ≡ map g xs
  map_same g [] h = refl
  map_same g (x ∷ xs) h = ap₂ (λ y ys. y ∷ ys) h.0 (map_same g xs h.1)

-- the elements, each made from one of the list and the fact on it
module _ {X Y : Type 0} (P : X → Type 0) (make : (x : X) → P x → Y) where
  abbrev pub made : (xs : List X) → AllByRecursion P xs → List Y
  made [] h = []
  made (x ∷ xs) h = make x h.0 ∷ made xs h.1

  pub length_made : (xs : List X) (h : AllByRecursion P xs) → length (made xs h) ≡ length xs
  length_made [] h = refl
  length_made (x ∷ xs) h = ap suc (length_made xs h.1)

  pub all_made : (Q : Y → Type 0) → ((x : X) (p : P x) → Q (make x p)) → (xs : List X) (h : AllByRecursion P xs) → AllByRecursion Q (made xs h)
  all_made Q k [] h = tt
  all_made Q k (x ∷ xs) h = (k x h.0, all_made Q k xs h.1)

  pub map_made : (back : Y → X) → ((x : X) (p : P x) → back (make x p) ≡ x) → (xs : List X) (h : AllByRecursion P xs) → map back (made xs h) ≡ xs
  map_made back k [] h = refl
  map_made back k (x ∷ xs) h = ap₂ (λ y ys. y ∷ ys) (k x h.0) (map_made back k xs h.1)

pub getD_numbers : (n c d : ℕ) → 1 ≤ c → c ≤ n → get_or (numbers n) (c - 1) d ≡ c
getD_numbers zero c d l h = absurd (omega arith)
getD_numbers (suc n) c d l h =
    ⊎_elim (λ e. get_or_push (numbers n) (suc n) d (c - 1) (omega (arith, length_numbers n)) ∙ sym e)
    (λ e. get_or_append_left (numbers n) (suc n ∷ []) d (c - 1) (omega (arith, length_numbers n)) ∙ getD_numbers n c d l (omega arith))
    (cases_eq c (suc n))
