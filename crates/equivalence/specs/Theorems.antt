-- The theorems that make the answer exact, for every field that keeps the laws and all automata over it.
use Rattle.std.specs.Prelude.{◌≡◌, ℕ, ◌≤◌, ◌⊎◌, ◌↔◌, List, map, length}
use Rattle.field.specs.Algebra.{Algebra, Lawful, ops}
use Rattle.equivalence.specs.Trees.{Tree, Over, height}
use Rattle.equivalence.specs.Automata.{Automaton, Sides, Sound, vector, value, dimension}
use Rattle.equivalence.specs.Entries.{Entry, WellFormed, trees, tree_of, last_of}
use Rattle.equivalence.specs.Tries.{all_tries}
use Rattle.equivalence.specs.Valuing.{vectors_of, value_of}
use Rattle.equivalence.specs.Exploration.{Differ, Left, EndedDiffers, EndedEqual, Explored, Equivalent}

-- n tries over these sides, of automata over a lawful field, led to these kept trees
pub record Reached (A : Algebra) (S : Sides ℕ) (n : ℕ) (kept : List Tree) : Type 0 where
  pub lawful : Lawful A
  pub sound_a : Sound A.size S.a
  pub sound_b : Sound A.size S.b
  pub explored : Explored A S n kept

-- If it ended with equal, every finite tree over the symbols has the same value in both automata.
abbrev pub EqualIsExact : Type 0
EqualIsExact =
    (A : Algebra) (S : Sides ℕ) (n : ℕ) (kept : List Tree)
    → Reached A S n kept
    → EndedEqual A S n kept
    → Equivalent A S

-- A tree over the symbols with two different values, as high as any such tree or lower.
pub record LowestDifference (A : Algebra) (S : Sides ℕ) (t : Tree) : Type 0 where
  pub over : Over S.ranks t
  pub differ : Differ A S t
  pub lowest : (u : Tree) → Over S.ranks u → Differ A S u → height t ≤ height u

-- If it ended with differs, the tree kept last is a lowest difference.
abbrev pub DiffersIsExactAndLowest : Type 0
DiffersIsExactAndLowest =
    (A : Algebra) (S : Sides ℕ) (n : ℕ) (kept : List Tree)
    → Reached A S n kept
    → EndedDiffers A S kept
    → LowestDifference A S (last_of kept)

-- Hence, when it has ended, it ended with equal exactly when no finite tree has different values.
abbrev pub VerdictIsExact : Type 0
VerdictIsExact =
    (A : Algebra) (S : Sides ℕ) (n : ℕ) (kept : List Tree)
    → Reached A S n kept
    → EndedEqual A S n kept ⊎ EndedDiffers A S kept
    → EndedEqual A S n kept ↔ Equivalent A S

-- At any time the tries made are at most the sum over the symbols of the dimension to the power of the rank, and the trees
-- kept at most the dimension; and while it has not ended there is a next try.
pub record Bounds (A : Algebra) (S : Sides ℕ) (n : ℕ) (kept : List Tree) : Type 0 where
  pub tries : n ≤ all_tries (dimension S) S.ranks
  pub trees : length kept ≤ dimension S
  pub next : (EndedDiffers A S kept → ⊥) → (EndedEqual A S n kept → ⊥) → Left S.ranks n kept

abbrev pub AlwaysBounded : Type 0
AlwaysBounded = (A : Algebra) (S : Sides ℕ) (n : ℕ) (kept : List Tree) → Reached A S n kept → Bounds A S n kept

-- Worked out entry by entry, whatever the operations: the vectors are those of the entries' trees, and the value is that of
-- the tree that the list stands for; so another list that stands for the same tree has the same value.
pub record Valued (A : Algebra) (M : Automaton ℕ) (ranks : List ℕ) (es : List Entry) : Type 0 where
  pub vectors : vectors_of (ops A) M es ≡ map (vector (ops A) M) (trees es)
  pub tree : value_of (ops A) M es ≡ value (ops A) M (tree_of es)
  pub same :
      (fs : List Entry) → WellFormed ranks fs → tree_of es ≡ tree_of fs → value_of (ops A) M es ≡ value_of (ops A) M fs

abbrev pub ValuesOfEntries : Type 0
ValuesOfEntries =
    (A : Algebra) (M : Automaton ℕ) (ranks : List ℕ) (es : List Entry)
    → Sound A.size M
    → WellFormed ranks es
    → Valued A M ranks es
