-- Functions of a place that are compared as whole tables, which antt computes. Assumes nothing.
use Rattle.std.proofs.Common.{◌≡◌, ℕ, ◌<◌, List, map, get_or, sym, ap, ◌∙◌, zero-add}
use Rattle.std.specs.List.{range_with_len}
use Rattle.std.proofs.lemmas.List.FromFn.{get_or-map-range_with_len}

abbrev pub table : {X : Type 0} → ℕ → (ℕ → X) → List X
table n f = map f (range_with_len 0 n)

pub agree : {X : Type 0} (f g : ℕ → X) (n : ℕ) → table n f ≡ table n g → (k : ℕ) → k < n → f k ≡ g k
agree f g n e k h =
    sym (get_or-map-range_with_len f 0 n k k (f 0) h (zero-add k)) ∙ ap (λ xs. get_or xs k (f 0)) e
    ∙ get_or-map-range_with_len g 0 n k k (f 0) h (zero-add k)

-- tables of two places
pub agree_both :
    {X : Type 0} (F G : ℕ → ℕ → X) (n : ℕ)
    → table n (λ i. table n (F i)) ≡ table n (λ i. table n (G i))
    → (i : ℕ)
    → i < n
    → (j : ℕ)
    → j < n
    → F i j ≡ G i j
agree_both F G n e i hi = agree (F i) (G i) n (agree (λ i. table n (F i)) (λ i. table n (G i)) n e i hi)

pub agree_three :
    {X : Type 0} (F G : ℕ → ℕ → ℕ → X) (n : ℕ)
    → table n (λ i. table n (λ j. table n (F i j))) ≡ table n (λ i. table n (λ j. table n (G i j)))
    → (i : ℕ)
    → i < n
    → (j : ℕ)
    → j < n
    → (k : ℕ)
    → k < n
    → F i j k ≡ G i j k
agree_three F G n e i hi j hj =
    agree (F i j) (G i j) n (agree_both (λ i j. table n (F i j)) (λ i j. table n (G i j)) n e i hi j hj)
