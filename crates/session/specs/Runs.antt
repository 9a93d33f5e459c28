-- Lists of calls with their outcomes, and where they lead.
use Rattle.std.specs.Prelude.{◌≡◌, List, [], ◌∷◌, map, is_ok, filter}
use Rattle.field.specs.Algebra.{Algebra}
use Rattle.session.specs.Calls.{Call, Outcome, Does}
use Rattle.session.specs.Sessions.{Session}

-- a call that was made, and how it ended
pub record Event : Type 0 where
  pub call : Call
  pub outcome : Outcome call

-- The events, one after the other, lead from one session to another.
abbrev pub Run : Algebra → Session → List Event → Session → Type 0
Run A s [] t = t ≡ s
Run A s (e ∷ es) t = (u : Session) × Does A s e.call e.outcome u × Run A u es t

-- those whose call was accepted
abbrev pub accepted : List Event → List Event
accepted es = filter (λ e. is_ok e.outcome) es

abbrev pub calls : List Event → List Call
calls es = map (λ e. e.call) es
