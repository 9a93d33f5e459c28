-- The exploration of the reachable vectors: which tries it makes, which trees it keeps, and how it ends.
use Rattle.std.specs.Prelude.{◌≡◌, ℕ, zero, suc, ◌<◌, ◌≤◌, ◌⊎◌, List, [], ◌∷◌, ◌++◌, map, length, slice_index_or}
use Rattle.field.specs.Algebra.{Algebra, ops}
use Rattle.equivalence.specs.Trees.{Tree, node, Over}
use Rattle.equivalence.specs.Automata.{Sides, value, joined_vector, dimension}
use Rattle.equivalence.specs.Entries.{named, last_of}
use Rattle.equivalence.specs.Spans.{SumOfMultiples}
use Rattle.equivalence.specs.Tries.{Try, turns}

-- the tree of a try over the kept trees
abbrev pub built : List Tree → Try → Tree
built kept y = node y.symbol (named kept y.row)

-- the values of the tree in the two sides differ
abbrev pub Differ : Algebra → Sides ℕ → Tree → Type 0
Differ A S t = value (ops A) S.a t ≡ value (ops A) S.b t → ⊥

-- the tree's joined vector is a sum of multiples of those of the kept trees
abbrev pub Depends : Algebra → Sides ℕ → List Tree → Tree → Type 0
Depends A S kept t =
    SumOfMultiples A (dimension S) (map (joined_vector (ops A) S) kept) (joined_vector (ops A) S t)

-- Turn i takes place when at least i trees are kept, so with these trees kept the tries are those of the turns up to
-- their number; after n of them there is one left, and the next is the n-th of them, counted from 0.
abbrev pub Left : List ℕ → ℕ → List Tree → Type 0
Left ranks n kept = n < length (turns ranks (length kept))

abbrev pub next : List ℕ → ℕ → List Tree → Try
next ranks n kept = slice_index_or (turns ranks (length kept)) n (record { symbol = 0; row = [] })

-- After n tries, with these trees kept, it has ended with differs: the tree kept last has different values.
abbrev pub EndedDiffers : Algebra → Sides ℕ → List Tree → Type 0
EndedDiffers A S kept = (1 ≤ length kept) × Differ A S (last_of kept)

-- It has ended with equal: not with differs, and no try is left.
abbrev pub EndedEqual : Algebra → Sides ℕ → ℕ → List Tree → Type 0
EndedEqual A S n kept = (EndedDiffers A S kept → ⊥) × (Left S.ranks n kept → ⊥)

-- It goes on otherwise.
abbrev pub GoesOn : Algebra → Sides ℕ → ℕ → List Tree → Type 0
GoesOn A S n kept = (EndedDiffers A S kept → ⊥) × Left S.ranks n kept

-- What a try does to the kept trees: its tree is kept, as the next, exactly where it does not depend on them.
abbrev pub Tried : Algebra → Sides ℕ → ℕ → List Tree → List Tree → Type 0
Tried A S n before after =
    let t = built before (next S.ranks n before) in
    ((Depends A S before t → ⊥) × (after ≡ before ++ (t ∷ []))) ⊎ (Depends A S before t × (after ≡ before))

-- n tries lead from nothing to these kept trees, none of them made after the end.
abbrev pub Explored : Algebra → Sides ℕ → ℕ → List Tree → Type 0
Explored A S zero kept = kept ≡ []
Explored A S (suc n) kept = (before : List Tree) × Explored A S n before × GoesOn A S n before × Tried A S n before kept

-- no finite tree over the symbols has different values
abbrev pub Equivalent : Algebra → Sides ℕ → Type 0
Equivalent A S = (t : Tree) → Over S.ranks t → value (ops A) S.a t ≡ value (ops A) S.b t
