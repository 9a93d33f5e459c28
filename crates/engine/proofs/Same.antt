-- States that hold the same are the same. Assumes nothing.
use Rattle.std.proofs.Common.{◌≡◌, Ok, Err, Result, refl, ap, ◌∙◌}
use Rattle.std.proofs.Props.{props}
use mathlib.Core.HLevel.{is_prop→PathP}
use Rattle.automaton.specs.declared.Automaton.{Automaton}
use Rattle.engine.specs.Open.{opened, sides}
use Rattle.engine.specs.declared.state.State.{State}
use Rattle.field.specs.declared.Field.{Ghosts}
use Rattle.refusals.specs.declared.Refusal.{Refusal}
use Rattle.session.specs.Calls.{IfRefused}
use Rattle.session.specs.Validity.{Valid}
use Rattle.side.specs.declared.Side.{Side}
use Rattle.side.specs.declared.Side.TheVariants as side
use Rattle.side.specs.Both.{at, with_at}
use Rattle.side.specs.declared.both.Both.{Both}

pub same_state : {X : Type 0} {g : Ghosts X} (s t : State X g) → s.setting ≡ t.setting → s.automata ≡ t.automata → s ≡ t
same_state {g = g} s t e f i =
    record {
      setting = e i;
      automata = f i;
      valid = is_prop→PathP (λ k. Valid (g.model (e k).field) (opened (sides (e k) (f k)))) (λ k. hlevel props) s.valid t.valid i;
    }

with_its_own : (ms : Both Automaton) (x : Side) → with_at ms x (at ms x) ≡ ms
with_its_own ms side.A = refl
with_its_own ms side.B = refl

-- an automaton put back as it was
pub put_back : (ms : Both Automaton) (x : Side) (l m : Automaton) → l ≡ at ms x → m ≡ l → with_at ms x m ≡ ms
put_back ms x l m e h = ap (with_at ms x) (h ∙ e) ∙ with_its_own ms x

pub if_refused : {U P Q : Type 0} (r : Result U Refusal) → (P → Q) → IfRefused r P → IfRefused r Q
if_refused (Ok v) f p = tt
if_refused (Err e) f p = f p
