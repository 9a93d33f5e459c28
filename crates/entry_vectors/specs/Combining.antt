-- What it takes to combine vectors, and the steps of it.
use Rattle.std.specs.Prelude.{ℕ, zero, suc, ◌≤◌, List, [], ◌∷◌, length, slice_index_or, slice_set}
use Rattle.std.specs.List.{AllByRecursion}
use Rattle.field.specs.Ops.{Ops}
use Rattle.equivalence.specs.Entries.{Entry}

-- the child numbers of an entry are 0 or name one of the vectors
abbrev pub Earlier : List (List ℕ) → Entry → Type 0
Earlier vs e = AllByRecursion (λ c. c ≤ length vs) e.children

-- the numbers are among those from 1 to n
abbrev pub Among : ℕ → List ℕ → Type 0
Among n ss = AllByRecursion (λ s. (1 ≤ s) × (s ≤ n)) ss

-- the numbers before the first 0
abbrev pub named : List ℕ → List ℕ
named [] = []
named (zero ∷ cs) = []
named (suc c ∷ cs) = suc c ∷ named cs

-- x added to the element of a state, of the states numbered from 1; a vector that lacks the state stays as it is
abbrev pub added : Ops ℕ → ℕ → ℕ → List ℕ → List ℕ
added o zero x vector = vector
added o (suc at) x vector = slice_set vector at (o.sum x (slice_index_or vector at o.nil))
