-- The value of a list of entries, worked out entry by entry from the vectors of earlier entries, with no tree built.
use Rattle.std.specs.Prelude.{ℕ, zero, suc, ◌-◌, List, [], ◌∷◌, ◌++◌, map, slice_index_or}
use Rattle.field.specs.Ops.{Ops, total, dot}
use Rattle.equivalence.specs.Automata.{Automaton, states, numbers, leading}
use Rattle.equivalence.specs.Entries.{Entry}

-- The product, over an entry's child numbers up to the first 0 and a rule's child states, of the children's elements: state
-- s of child c is the s-th element of the c-th vector. Zero where there are not as many states as children.
abbrev pub through : {K : Type 0} → Ops K → List (List K) → List ℕ → List ℕ → K
through o vectors [] [] = o.unit
through o vectors [] (s ∷ ss) = o.nil
through o vectors (zero ∷ cs) [] = o.unit
through o vectors (zero ∷ cs) (s ∷ ss) = o.nil
through o vectors (suc c ∷ cs) [] = o.nil
through o vectors (suc c ∷ cs) (s ∷ ss) = o.prod (slice_index_or (slice_index_or vectors c []) (s - 1) o.nil) (through o vectors cs ss)

-- The vector of an entry, from those of the entries before it: at each state the sum, over the rules of its symbol that
-- lead to the state, of the weight times that product.
abbrev pub entry_vector : {K : Type 0} → Ops K → Automaton K → List (List K) → Entry → List K
entry_vector o M vectors e =
    map
    (λ s. total o (map (λ r. o.prod r.weight (through o vectors e.children r.children)) (leading M.rules e.symbol s)))
    (numbers (states M))

-- the vectors of the entries, in their order, after those already there
abbrev pub vectors_from : {K : Type 0} → Ops K → Automaton K → List (List K) → List Entry → List (List K)
vectors_from o M vectors [] = vectors
vectors_from o M vectors (e ∷ es) = vectors_from o M (vectors ++ (entry_vector o M vectors e ∷ [])) es

abbrev pub vectors_of : {K : Type 0} → Ops K → Automaton K → List Entry → List (List K)
vectors_of o M es = vectors_from o M [] es

-- the last of the list, or x where the list is empty
abbrev pub last_or : {X : Type 0} → X → List X → X
last_or x [] = x
last_or x (y ∷ ys) = last_or y ys

-- The value of a list of entries: the sum over the states of the final weight times the last vector's element.
abbrev pub value_of : {K : Type 0} → Ops K → Automaton K → List Entry → K
value_of o M es = dot o M.finals (last_or [] (vectors_of o M es))
