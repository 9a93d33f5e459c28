-- A loop over the places of a vector that writes each place anew. Assumes nothing.
use Rattle.std.proofs.Common.{◌≡◌, ℕ, ◌+◌, ◌<◌, ◌≤◌, List, map, length, get_or, set, ap, ◌∙◌, arith}
use Rattle.std.specs.List.{range_with_len}
use Rattle.field.specs.Codes.{AllBelow}
use Rattle.std.proofs.lemmas.List.{get_or-set_other}
use Rattle.std.proofs.lemmas.List.FromFn.{fill_by_all}
use Rattle.std.proofs.lemmas.List.Edits.{fill_by_more}
use Rattle.std.proofs.ByRecursion.{All-set}

-- the first i places of v are as F says, the others as they were before, and all are codes below q
abbrev pub Rewritten : ℕ → (ℕ → ℕ) → List ℕ → List ℕ → ℕ → Type 0
Rewritten q F before v i =
    AllBelow q v × ((k : ℕ) → k < i → get_or v k 0 ≡ F k) × ((k : ℕ) → i ≤ k → get_or v k 0 ≡ get_or before k 0)

module _ (q : ℕ) (F : ℕ → ℕ) (before : List ℕ) where
  pub rewritten_more :
      (v : List ℕ) (i x : ℕ)
      → i < length v
      → x < q
      → x ≡ F i
      → Rewritten q F before v i
      → Rewritten q F before (set v i x) (i + 1)
  rewritten_more v i x l b e h = (
    All-set (λ c. c < q) v i x b h.0,
    λ k m. ap (λ y. get_or (set v i y) k 0) e ∙ fill_by_more F v i 0 l h.1 k m,
    λ k m. get_or-set_other v i k x 0 (omega arith) ∙ h.2 k (omega arith),
  )

  pub rewritten_all :
      (v : List ℕ) (n i : ℕ) → length v ≡ n → n ≤ i → Rewritten q F before v i → v ≡ map F (range_with_len 0 n)
  rewritten_all v n i e l h = fill_by_all F v n 0 e (λ k m. h.1 k (omega arith))
