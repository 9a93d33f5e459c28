-- A tree as a list of entries, numbered from 1: each is a symbol over earlier entries, and the last is the root.
use Rattle.std.specs.Prelude.{◌≡◌, ℕ, zero, suc, ◌≤◌, List, [], ◌∷◌, ◌++◌, length, take, drop, slice_index_or}
use Rattle.std.specs.List.{AllByRecursion}
use Rattle.equivalence.specs.Trees.{Tree, Forest, node, bare, more, rank, Declared}

pub record Entry : Type 0 where
  pub symbol : ℕ
  pub children : List ℕ

-- the trees that the numbers name, up to the first 0
abbrev pub named : List Tree → List ℕ → Forest
named ts [] = bare
named ts (zero ∷ cs) = bare
named ts (suc c ∷ cs) = more (slice_index_or ts c (node 0 bare)) (named ts cs)

-- the trees of the entries, in their order, after those already there
abbrev pub grown : List Tree → List Entry → List Tree
grown ts [] = ts
grown ts (e ∷ es) = grown (ts ++ (node e.symbol (named ts e.children) ∷ [])) es

abbrev pub trees : List Entry → List Tree
trees es = grown [] es

abbrev pub last_of : List Tree → Tree
last_of [] = node 0 bare
last_of (t ∷ []) = t
last_of (t ∷ u ∷ ts) = last_of (u ∷ ts)

-- the tree that a list of entries stands for
abbrev pub tree_of : List Entry → Tree
tree_of es = last_of (trees es)

-- An entry with n entries before it: its symbol is declared, of its three child numbers the first, as many as the rank,
-- name earlier entries, and the others are 0.
pub record LaidOut (ranks : List ℕ) (n : ℕ) (e : Entry) : Type 0 where
  pub declared : Declared ranks e.symbol
  pub three : length e.children ≡ 3
  pub named : AllByRecursion (λ c. (1 ≤ c) × (c ≤ n)) (take (rank ranks e.symbol) e.children)
  pub rest : AllByRecursion (λ c. c ≡ 0) (drop (rank ranks e.symbol) e.children)

abbrev pub LaidOutFrom : List ℕ → ℕ → List Entry → Type 0
LaidOutFrom ranks n [] = Unit {0}
LaidOutFrom ranks n (e ∷ es) = LaidOut ranks n e × LaidOutFrom ranks (suc n) es

-- a list that stands for a tree
pub record WellFormed (ranks : List ℕ) (es : List Entry) : Type 0 where
  pub some : 1 ≤ length es
  pub entries : LaidOutFrom ranks 0 es
