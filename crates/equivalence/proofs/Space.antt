-- Vectors as functions of the place, their sums of multiples, and linear maps. Definitions; assumes nothing.
use Rattle.std.proofs.Common.{◌≡◌, ℕ, List, ◌∷◌, ◌++◌, map, length}
use Rattle.field.specs.Ops.{Ops, dot}

abbrev pub Vector : Type 0 → Type 0
Vector K = ℕ → K

-- the sum of the vectors, each times its coefficient
abbrev pub combined : {K : Type 0} → Ops K → List K → List (Vector K) → Vector K
combined o cs vs i = dot o cs (map (λ v. v i) vs)

abbrev pub Spanned : {K : Type 0} → Ops K → List (Vector K) → Vector K → Type 0
Spanned {K} o vs v = (cs : List K) × (length cs ≡ length vs) × ((i : ℕ) → v i ≡ combined o cs vs i)

-- a map of vectors that takes sums of multiples to sums of the same multiples
abbrev pub Linear : {K : Type 0} → Ops K → (Vector K → Vector K) → Type 0
Linear {K} o f =
    (cs : List K) (vs : List (Vector K)) (v : Vector K)
    → length cs ≡ length vs
    → ((i : ℕ) → v i ≡ combined o cs vs i)
    → (i : ℕ)
    → f v i ≡ combined o cs (map f vs) i

-- the same of a map to elements
abbrev pub Functional : {K : Type 0} → Ops K → (Vector K → K) → Type 0
Functional {K} o f =
    (cs : List K) (vs : List (Vector K)) (v : Vector K)
    → length cs ≡ length vs
    → ((i : ℕ) → v i ≡ combined o cs vs i)
    → f v ≡ dot o cs (map f vs)

-- a map of rows of vectors that is linear at each place of the row
abbrev pub Multilinear : {K : Type 0} → Ops K → (List (Vector K) → Vector K) → Type 0
Multilinear {K} o f = (xs ys : List (Vector K)) → Linear o (λ v. f (xs ++ (v ∷ ys)))
