-- The order of tries. A try is a symbol over a row of numbers of kept trees.
use Rattle.std.specs.Prelude.{ℕ, zero, suc, ◌+◌, ◌^◌, Bool, false, ◌||◌, List, [], ◌∷◌, ◌++◌, map, length, filter, ◌==◌}
use Rattle.std.specs.List.{flat_map}
use Rattle.equivalence.specs.Trees.{rank}
use Rattle.equivalence.specs.Automata.{numbers}

pub record Try : Type 0 where
  pub symbol : ℕ
  pub row : List ℕ

-- all rows of k numbers from 1 to i, in dictionary order
abbrev pub rows : ℕ → ℕ → List (List ℕ)
rows zero i = [] ∷ []
rows (suc k) i = flat_map (λ c. map (λ row. c ∷ row) (rows k i)) (numbers i)

abbrev pub occurs : ℕ → List ℕ → Bool
occurs i [] = false
occurs i (c ∷ cs) = c == i || occurs i cs

-- the tries of one symbol over the given rows
abbrev pub tries_of : ℕ → List (List ℕ) → List Try
tries_of s rs = map (λ row. record { symbol = s; row = row }) rs

-- the rows of a symbol of rank k in turn i: in turn 0 the empty row, for rank 0 alone; in a later turn i all rows of
-- numbers from 1 to i, as long as the rank, in which i occurs, for ranks from 1 on
abbrev pub rows_in_turn : ℕ → ℕ → List (List ℕ)
rows_in_turn zero zero = [] ∷ []
rows_in_turn zero (suc k) = []
rows_in_turn (suc i) zero = []
rows_in_turn (suc i) (suc k) = filter (occurs (suc i)) (rows (suc k) (suc i))

-- turn i: the symbols in order of number, and for each its rows in their order
abbrev pub turn : List ℕ → ℕ → List Try
turn ranks i = flat_map (λ s. tries_of s (rows_in_turn i (rank ranks s))) (numbers (length ranks))

-- the turns 0 to m, one after the other
abbrev pub turns : List ℕ → ℕ → List Try
turns ranks zero = turn ranks zero
turns ranks (suc m) = turns ranks m ++ turn ranks (suc m)

-- the sum over the symbols of d to the power of the rank
abbrev pub all_tries : ℕ → List ℕ → ℕ
all_tries d [] = 0
all_tries d (k ∷ ks) = d ^ k + all_tries d ks
