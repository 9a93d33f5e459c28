-- The calls, the checks of each in their order, and what a call does to a session.
use Rattle.std.specs.Prelude.{◌≡◌, ℕ, suc, ◌<◌, ◌≤◌, ◌⊎◌, List, [], ◌∷◌, length, Ok, Err, Result}
use Rattle.std.specs.List.{AllByRecursion}
use Rattle.field.specs.Algebra.{Algebra, ops}
use Rattle.equivalence.specs.Trees.{rank, Declared}
use Rattle.equivalence.specs.Automata.{Automaton, states, value}
use Rattle.equivalence.specs.Entries.{Entry, WellFormed, tree_of}
use Rattle.refusals.specs.declared.Refusal.{Refusal}
use Rattle.refusals.specs.declared.Refusal.TheVariants.{WeightTooLarge, StateCountOutOfRange, Undeclared, WrongChildren, RankTooLarge, NoSuchSide, MalformedTree, Sealed, TableFull}
use Rattle.session.specs.declared.Phase.TheVariants.{Open}
use Rattle.session.specs.Sessions.{Session, side, with_sides, with_symbol, with_rule, with_final}

-- A call with its arguments, which may be any numbers and lists.
pub data Call : Type 0 where
  -- the rank
  call_symbol : ℕ → Call
  -- side, symbol, target, weight and child states
  call_rule : ℕ → ℕ → ℕ → ℕ → List ℕ → Call
  -- side, state and weight
  call_final : ℕ → ℕ → ℕ → Call
  -- side and entries
  call_weigh : ℕ → List Entry → Call

-- what an accepted call gives: the new symbol's number, nothing, nothing, and the tree's value
abbrev pub Given : Call → Type 0
Given (call_symbol k) = ℕ
Given (call_rule x f t w cs) = Unit {0}
Given (call_final x q w) = Unit {0}
Given (call_weigh x es) = ℕ

abbrev pub Outcome : Call → Type 0
Outcome c = Result (Given c) Refusal

-- A check: the refusal, and what has to hold for it not to be given.
abbrev pub Check : Type 1
Check = record { refusal : Refusal; passes : Type 0 }

abbrev pub AllPass : List Check → Type 0
AllPass [] = Unit {0}
AllPass (c ∷ cs) = c.passes × AllPass cs

-- the first check that does not pass gives this refusal
abbrev pub FirstFailing : List Check → Refusal → Type 0
FirstFailing [] e = ⊥
FirstFailing (c ∷ cs) e = ((c.passes → ⊥) × (e ≡ c.refusal)) ⊎ (c.passes × FirstFailing cs e)

-- states are numbered from 1
abbrev pub StateOf : Automaton ℕ → ℕ → Type 0
StateOf M q = (1 ≤ q) × (q ≤ states M)

-- The checks of a symbol that are made on the symbols before it, in their order.
abbrev pub symbol_checks : List ℕ → ℕ → List Check
symbol_checks ranks k =
    record { refusal = RankTooLarge; passes = k ≤ 3 } ∷ record { refusal = TableFull; passes = length ranks < 12 } ∷ []

-- The checks of a rule and of a final weight that are made on a side, in their order.
abbrev pub rule_checks : Algebra → List ℕ → Automaton ℕ → ℕ → ℕ → ℕ → List ℕ → List Check
rule_checks A ranks M f t w cs =
    record { refusal = Undeclared; passes = Declared ranks f }
    ∷ record { refusal = WrongChildren; passes = length cs ≡ rank ranks f }
    ∷ record { refusal = Undeclared; passes = StateOf M t }
    ∷ record { refusal = Undeclared; passes = AllByRecursion (StateOf M) cs }
    ∷ record { refusal = WeightTooLarge; passes = w < A.size }
    ∷ record { refusal = TableFull; passes = length M.rules < 256 }
    ∷ []

abbrev pub final_checks : Algebra → Automaton ℕ → ℕ → ℕ → List Check
final_checks A M q w =
    record { refusal = Undeclared; passes = StateOf M q } ∷ record { refusal = WeightTooLarge; passes = w < A.size } ∷ []

-- The checks of a call, in their order.
abbrev pub checks : Algebra → Session → Call → List Check
checks A s (call_symbol k) =
    record { refusal = Sealed; passes = s.phase ≡ Open } ∷ symbol_checks s.sides.ranks k
checks A s (call_rule x f t w cs) =
    record { refusal = Sealed; passes = s.phase ≡ Open }
    ∷ record { refusal = NoSuchSide; passes = x ≤ 1 }
    ∷ rule_checks A s.sides.ranks (side s.sides x) f t w cs
checks A s (call_final x q w) =
    record { refusal = Sealed; passes = s.phase ≡ Open }
    ∷ record { refusal = NoSuchSide; passes = x ≤ 1 }
    ∷ final_checks A (side s.sides x) q w
checks A s (call_weigh x es) =
    record { refusal = NoSuchSide; passes = x ≤ 1 }
    ∷ record { refusal = MalformedTree; passes = WellFormed s.sides.ranks es × (length es ≤ 64) }
    ∷ []

-- Only state counts that pass begin a session.
abbrev pub count_checks : ℕ → ℕ → List Check
count_checks n m =
    record { refusal = StateCountOutOfRange; passes = (1 ≤ n) × (n ≤ 12) × (1 ≤ m) × (m ≤ 12) } ∷ []

-- What an accepted call gives, and what the session is after it.
abbrev pub After : Algebra → Session → (c : Call) → Given c → Session → Type 0
After A s (call_symbol k) v t =
    (v ≡ suc (length s.sides.ranks)) × (t ≡ with_sides s (with_symbol s.sides k))
After A s (call_rule x f q w cs) v t =
    t ≡ with_sides s (with_rule s.sides x (record { symbol = f; target = q; weight = w; children = cs }))
After A s (call_final x q w) v t = t ≡ with_sides s (with_final s.sides x q w)
After A s (call_weigh x es) v t = (v ≡ value (ops A) (side s.sides x) (tree_of es)) × (t ≡ s)

-- A call with its outcome leads from one session to another: an accepted one passes all its checks and does its work; a
-- refused one fails the check that it names, having passed those before, and leaves the session as it was.
abbrev pub Does : Algebra → Session → (c : Call) → Outcome c → Session → Type 0
Does A s c (Ok v) t = AllPass (checks A s c) × After A s c v t
Does A s c (Err e) t = FirstFailing (checks A s c) e × (t ≡ s)

-- what holds where a call is refused
abbrev pub IfRefused : {X : Type 0} → Result X Refusal → Type 0 → Type 0
IfRefused (Ok v) P = Unit {0}
IfRefused (Err e) P = P
