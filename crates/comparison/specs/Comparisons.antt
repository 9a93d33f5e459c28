-- What a comparison stands for.
use Rattle.std.specs.Prelude.{◌≡◌, ℕ, Result, MatchResult}
use Rattle.field.specs.declared.Field.{Ghosts}
use Rattle.engine.specs.States as state
use Rattle.refusals.specs.declared.Refusal.{Refusal}
use Rattle.session.specs.Calls.{AllPass, FirstFailing, count_checks}
use Rattle.session.specs.Sessions.{Session}
use Rattle.comparison.specs.declared.comparison.Comparison.{Comparison}
use Rattle.comparison.specs.declared.counts.Counts.{Counts}

abbrev pub field_of : {X : Type 0} {g : Ghosts X} → Comparison X g → X
field_of c = state.field_of c.state

abbrev pub session : {X : Type 0} {g : Ghosts X} → Comparison X g → Session
session c = record { phase = c.phase; sides = state.sides_of c.state }

-- the state counts of the sides
abbrev pub count_a : Counts → ℕ
count_a c = c.a

abbrev pub count_b : Counts → ℕ
count_b c = c.b

-- two state counts, accepted or refused
abbrev pub Counted : ℕ → ℕ → Result Counts Refusal → Type 0
Counted n m r =
    MatchResult r (λ c. AllPass (count_checks n m) × ((count_a c ≡ n) × (count_b c ≡ m))) (λ e. FirstFailing (count_checks n m) e)
