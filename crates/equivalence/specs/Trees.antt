-- Ranked trees. Symbols are numbered from 1; a list of ranks declares them, the rank of symbol s standing at place s.
use Rattle.std.specs.Prelude.{◌≡◌, ℕ, suc, ◌-◌, ◌≤◌, max, List, length, slice_index}

-- a tree is a symbol over a row of trees, its children
mutual
  pub data Tree : Type 0 where
    node : ℕ → Forest → Tree

  pub data Forest : Type 0 where
    bare : Forest
    more : Tree → Forest → Forest

abbrev pub rank : List ℕ → ℕ → ℕ
rank ranks s = slice_index ranks (s - 1)

abbrev pub Declared : List ℕ → ℕ → Type 0
Declared ranks s = (1 ≤ s) × (s ≤ length ranks)

-- how many trees a forest has
abbrev pub width : Forest → ℕ
width bare = 0
width (more t f) = suc (width f)

-- every symbol of the tree is declared, and has as many children as its rank
abbrev mutual
  pub Over : List ℕ → Tree → Type 0
  Over ranks (node s f) = Declared ranks s × (width f ≡ rank ranks s) × AllOver ranks f

  pub AllOver : List ℕ → Forest → Type 0
  AllOver ranks bare = Unit {0}
  AllOver ranks (more t f) = Over ranks t × AllOver ranks f

-- a tree with no child has height 1, any other one more than its highest child
abbrev mutual
  pub height : Tree → ℕ
  height (node s f) = suc (highest f)

  pub highest : Forest → ℕ
  highest bare = 0
  highest (more t f) = max (height t) (highest f)
