-- What holds of every list of calls, over every field, accepted and refused calls mixed.
use Rattle.std.specs.Prelude.{◌≡◌, ℕ, true, ◌↔◌, List, is_ok, Ok, Err}
use Rattle.field.specs.Algebra.{Algebra, Lawful, ops}
use Rattle.equivalence.specs.Automata.{value}
use Rattle.equivalence.specs.Entries.{Entry, tree_of}
use Rattle.equivalence.specs.Trees.{Declared, rank}
use Rattle.refusals.specs.declared.Refusal.{Refusal}
use Rattle.session.specs.Causes.{Cause}
use Rattle.session.specs.Sessions.{Session, begun, side}
use Rattle.session.specs.Calls.{Call, Outcome, AllPass, Does, call_symbol, call_weigh, checks}
use Rattle.session.specs.Runs.{Event, Run, accepted, calls}
use Rattle.session.specs.Declarations.{sides_given}
use Rattle.session.specs.Validity.{ValidSession}

-- A session that began with n and m states holds what the accepted calls declared.
abbrev pub HoldsWhatWasDeclared : Type 0
HoldsWhatWasDeclared =
    (A : Algebra) (n m : ℕ) (es : List Event) (s : Session)
    → Run A (begun n m) es s
    → s.sides ≡ sides_given n m (calls (accepted es))

-- An accepted weighing then gives the value of the tree in the automaton that was declared for the side.
abbrev pub WeighsWhatWasDeclared : Type 0
WeighsWhatWasDeclared =
    (A : Algebra) (n m : ℕ) (es : List Event) (s t : Session) (x v : ℕ) (entries : List Entry)
    → Run A (begun n m) es s
    → Does A s (call_weigh x entries) (Ok v) t
    → v ≡ value (ops A) (side (sides_given n m (calls (accepted es))) x) (tree_of entries)

-- An accepted symbol has a number that no symbol had, and under it the rank asked for.
pub record Numbered (before after : List ℕ) (k v : ℕ) : Type 0 where
  pub new : Declared before v → ⊥
  pub declared : Declared after v
  pub ranked : rank after v ≡ k

abbrev pub SymbolsAreNumbered : Type 0
SymbolsAreNumbered =
    (A : Algebra) (s t : Session) (k v : ℕ)
    → Does A s (call_symbol k) (Ok v) t
    → Numbered s.sides.ranks t.sides.ranks k v

-- Every session reached keeps to the limits, and its automata are valid.
abbrev pub AlwaysValid : Type 0
AlwaysValid =
    (A : Algebra) (n m : ℕ) (es : List Event) (s : Session)
    → Lawful A
    → Run A (begun n m) es s
    → ValidSession A n m s

-- Without its refused calls a list leads to the same session.
abbrev pub RefusedAlterNothing : Type 0
RefusedAlterNothing =
    (A : Algebra) (s t : Session) (es : List Event) → Run A s es t → Run A s (accepted es) t

-- The calls determine their outcomes and the session that they lead to.
abbrev pub CallsDetermine : Type 0
CallsDetermine =
    (A : Algebra) (s t u : Session) (es fs : List Event)
    → calls es ≡ calls fs
    → Run A s es t
    → Run A s fs u
    → (es ≡ fs) × (t ≡ u)

-- A call is accepted exactly when all its checks pass.
abbrev pub AcceptedWhenAllPass : Type 0
AcceptedWhenAllPass =
    (A : Algebra) (s t : Session) (c : Call) (o : Outcome c) → Does A s c o t → (is_ok o ≡ true) ↔ AllPass (checks A s c)

-- Each refusal is given under its condition only.
abbrev pub RefusedForCause : Type 0
RefusedForCause =
    (A : Algebra) (s t : Session) (c : Call) (e : Refusal) → Does A s c (Err e) t → Cause A s c e
