-- Sessions that keep to the limits, and of whose automata all symbols and states are declared and all weights are elements.
use Rattle.std.specs.Prelude.{◌≡◌, ℕ, ◌<◌, ◌≤◌, List, length}
use Rattle.std.specs.List.{AllByRecursion}
use Rattle.field.specs.Algebra.{Algebra}
use Rattle.equivalence.specs.Trees.{rank, Declared}
use Rattle.equivalence.specs.Automata.{Rule, Automaton, states}
use Rattle.session.specs.Sessions.{Session}

-- over codes below q, with these symbols and n states
pub record ValidRule (q : ℕ) (ranks : List ℕ) (n : ℕ) (r : Rule ℕ) : Type 0 where
  pub symbol : Declared ranks r.symbol
  pub as_many : length r.children ≡ rank ranks r.symbol
  pub target : (1 ≤ r.target) × (r.target ≤ n)
  pub children : AllByRecursion (λ p. (1 ≤ p) × (p ≤ n)) r.children
  pub weight : r.weight < q

pub record ValidSide (q : ℕ) (ranks : List ℕ) (n : ℕ) (M : Automaton ℕ) : Type 0 where
  pub count : states M ≡ n
  pub finals : AllByRecursion (λ w. w < q) M.finals
  pub rules : AllByRecursion (ValidRule q ranks n) M.rules
  pub few : length M.rules ≤ 256

pub record ValidSession (A : Algebra) (n m : ℕ) (s : Session) : Type 0 where
  pub few : length s.sides.ranks ≤ 12
  pub ranks : AllByRecursion (λ k. k ≤ 3) s.sides.ranks
  pub a : ValidSide A.size s.sides.ranks n s.sides.a
  pub b : ValidSide A.size s.sides.ranks m s.sides.b

-- a session is valid with the states that it has
abbrev pub Valid : Algebra → Session → Type 0
Valid A s = ValidSession A (states s.sides.a) (states s.sides.b) s
