-- When each refusal is given, whatever the call. The checks say for each call which refusals it may give; this says for
-- each refusal what it means.
use Rattle.std.specs.Prelude.{ℕ, ◌<◌, ◌≤◌, ◌⊎◌, List, [], ◌∷◌, map, length, ◌≢◌}
use Rattle.field.specs.Algebra.{Algebra}
use Rattle.equivalence.specs.Trees.{rank, Declared}
use Rattle.equivalence.specs.Automata.{Rule, Automaton, Sides}
use Rattle.equivalence.specs.Entries.{Entry, WellFormed}
use Rattle.refusals.specs.declared.Refusal.{Refusal}
use Rattle.refusals.specs.declared.Refusal.TheVariants.{TextTooLong, Malformed, NoSuchModulus, NoExtension, WeightTooLarge, StateCountOutOfRange, Undeclared, Repeated, WrongChildren, RankTooLarge, NoSuchSide, MalformedTree, BufferTooShort, Sealed, NotSealed, Ended, NotEnded, TableFull}
use Rattle.session.specs.declared.Phase.TheVariants.{Open}
use Rattle.session.specs.Calls.{Call, StateOf, call_symbol, call_rule, call_final, call_weigh}
use Rattle.session.specs.Sessions.{Session, side}

-- P holds of some element
abbrev pub Among : {X : Type 0} → (X → Type 0) → List X → Type 0
Among P [] = ⊥
Among P (x ∷ xs) = P x ⊎ Among P xs

-- what a call names: ranks, sides, rules, states with the automaton whose they should be, weights, trees
abbrev pub ranks_in : Call → List ℕ
ranks_in (call_symbol k) = k ∷ []
ranks_in (call_rule x f t w cs) = []
ranks_in (call_final x q w) = []
ranks_in (call_weigh x es) = []

abbrev pub sides_in : Call → List ℕ
sides_in (call_symbol k) = []
sides_in (call_rule x f t w cs) = x ∷ []
sides_in (call_final x q w) = x ∷ []
sides_in (call_weigh x es) = x ∷ []

abbrev pub rules_in : Call → List (Rule ℕ)
rules_in (call_symbol k) = []
rules_in (call_rule x f t w cs) = record { symbol = f; target = t; weight = w; children = cs } ∷ []
rules_in (call_final x q w) = []
rules_in (call_weigh x es) = []

abbrev pub states_in : Sides ℕ → Call → List (Automaton ℕ × ℕ)
states_in S (call_symbol k) = []
states_in S (call_rule x f t w cs) = map (λ q. (side S x, q)) (t ∷ cs)
states_in S (call_final x q w) = (side S x, q) ∷ []
states_in S (call_weigh x es) = []

abbrev pub weights_in : Call → List ℕ
weights_in (call_symbol k) = []
weights_in (call_rule x f t w cs) = w ∷ []
weights_in (call_final x q w) = w ∷ []
weights_in (call_weigh x es) = []

abbrev pub trees_in : Call → List (List Entry)
trees_in (call_symbol k) = []
trees_in (call_rule x f t w cs) = []
trees_in (call_final x q w) = []
trees_in (call_weigh x es) = es ∷ []

-- the table that a call adds to, by how many it holds and how many it may hold
abbrev pub tables_in : Sides ℕ → Call → List (ℕ × ℕ)
tables_in S (call_symbol k) = (length S.ranks, 12) ∷ []
tables_in S (call_rule x f t w cs) = (length (side S x).rules, 256) ∷ []
tables_in S (call_final x q w) = []
tables_in S (call_weigh x es) = []

abbrev pub Declares : Call → Type 0
Declares (call_symbol k) = Unit {0}
Declares (call_rule x f t w cs) = Unit {0}
Declares (call_final x q w) = Unit {0}
Declares (call_weigh x es) = ⊥

-- What a refusal of a call means. Those that no call gives have no cause.
abbrev pub Cause : Algebra → Session → Call → Refusal → Type 0
Cause A s c TextTooLong = ⊥
Cause A s c Malformed = ⊥
Cause A s c NoSuchModulus = ⊥
Cause A s c NoExtension = ⊥
Cause A s c WeightTooLarge = Among (λ w. A.size ≤ w) (weights_in c)
Cause A s c StateCountOutOfRange = ⊥
Cause A s c Undeclared =
    Among (λ r. Declared s.sides.ranks r.symbol → ⊥) (rules_in c)
    ⊎ Among (λ p. StateOf p.0 p.1 → ⊥) (states_in s.sides c)
Cause A s c Repeated = ⊥
Cause A s c WrongChildren = Among (λ r. length r.children ≢ rank s.sides.ranks r.symbol) (rules_in c)
Cause A s c RankTooLarge = Among (λ k. 3 < k) (ranks_in c)
Cause A s c NoSuchSide = Among (λ x. 1 < x) (sides_in c)
Cause A s c MalformedTree = Among (λ es. WellFormed s.sides.ranks es × (length es ≤ 64) → ⊥) (trees_in c)
Cause A s c BufferTooShort = ⊥
Cause A s c Sealed = Declares c × (s.phase ≢ Open)
Cause A s c NotSealed = ⊥
Cause A s c Ended = ⊥
Cause A s c NotEnded = ⊥
Cause A s c TableFull = Among (λ p. p.1 ≤ p.0) (tables_in s.sides c)
