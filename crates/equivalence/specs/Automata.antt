-- Multiplicity tree automata and the tree series that they recognize, over any commutative ring's operations.
use Rattle.std.specs.Prelude.{ℕ, zero, suc, ◌+◌, ◌<◌, ◌≤◌, ◌&&◌, List, [], ◌∷◌, ◌++◌, map, length, filter, ◌==◌}
use Rattle.std.specs.List.{AllByRecursion}
use Rattle.field.specs.Ops.{Ops, total, dot}
use Rattle.equivalence.specs.Trees.{Tree, Forest, node, bare, more}

-- a rule of a symbol: where its children are in the given states, in order, it leads to the target with the weight
pub record Rule (K : Type 0) : Type 0 where
  pub symbol : ℕ
  pub target : ℕ
  pub weight : K
  pub children : List ℕ

-- the states are numbered from 1, and each has a final weight
pub record Automaton (K : Type 0) : Type 0 where
  pub finals : List K
  pub rules : List (Rule K)

abbrev pub states : {K : Type 0} → Automaton K → ℕ
states M = length M.finals

-- 1 to n
abbrev pub numbers : ℕ → List ℕ
numbers zero = []
numbers (suc n) = numbers n ++ (suc n ∷ [])

-- the rules of a symbol that lead to a state
abbrev pub leading : {K : Type 0} → List (Rule K) → ℕ → ℕ → List (Rule K)
leading rules x s = filter (λ r. (r.symbol == x) && r.target == s) rules

-- The element of a tree at a state: the sum, over the rules of its symbol that lead to the state, of the weight times the
-- product of the children's elements at the rule's child states. With no child that product is one.
abbrev mutual
  pub element : {K : Type 0} → Ops K → List (Rule K) → Tree → ℕ → K
  element o rules (node x f) s = total o (map (λ r. o.prod r.weight (along o rules f r.children)) (leading rules x s))

  -- zero where there are not as many states as trees
  pub along : {K : Type 0} → Ops K → List (Rule K) → Forest → List ℕ → K
  along o rules bare [] = o.unit
  along o rules bare (s ∷ ss) = o.nil
  along o rules (more t f) [] = o.nil
  along o rules (more t f) (s ∷ ss) = o.prod (element o rules t s) (along o rules f ss)

abbrev pub vector : {K : Type 0} → Ops K → Automaton K → Tree → List K
vector o M t = map (element o M.rules t) (numbers (states M))

-- The value of a tree: the sum over the states of the final weight times the tree's element.
abbrev pub value : {K : Type 0} → Ops K → Automaton K → Tree → K
value o M t = dot o M.finals (vector o M t)

-- Two automata over the same symbols: the sides A and B.
pub record Sides (K : Type 0) : Type 0 where
  pub ranks : List ℕ
  pub a : Automaton K
  pub b : Automaton K

-- A's vector followed by B's
abbrev pub joined_vector : {K : Type 0} → Ops K → Sides K → Tree → List K
joined_vector o S t = vector o S.a t ++ vector o S.b t

-- the states of both sides together
abbrev pub dimension : {K : Type 0} → Sides K → ℕ
dimension S = states S.a + states S.b

-- An automaton over codes below q: its weights are such codes, and its rules' child states are states of its own.
pub record SoundRule (q n : ℕ) (r : Rule ℕ) : Type 0 where
  pub weight : r.weight < q
  pub children : AllByRecursion (λ s. (1 ≤ s) × (s ≤ n)) r.children

pub record Sound (q : ℕ) (M : Automaton ℕ) : Type 0 where
  pub finals : AllByRecursion (λ w. w < q) M.finals
  pub rules : AllByRecursion (SoundRule q (states M)) M.rules
