-- What a setting and a side take is what an open session does. Assumes nothing.
use Rattle.std.proofs.Common.{◌≡◌, ℕ, List, Ok, Err, Result, refl, sym, ap, subst, inr, arith}
use Rattle.automaton.specs.Tables.{automaton_of}
use Rattle.automaton.specs.declared.Automaton.{Automaton}
use Rattle.engine.specs.Open.{opened, sides}
use Rattle.equivalence.specs.Automata.{Sides}
use Rattle.field.specs.Algebra.{Algebra}
use Rattle.refusals.specs.declared.Refusal.{Refusal}
use Rattle.session.specs.Calls.{Call, Does, Outcome, call_rule, call_symbol, rule_checks}
use Rattle.session.specs.Sessions.{Session, ruled}
use Rattle.session.specs.Validity.{Valid}
use Rattle.session.proofs.Validity.{does_still}
use Rattle.side.specs.Both.{at, with_at}
use Rattle.side.specs.Numbers.{number}
use Rattle.side.specs.declared.Side.{Side}
use Rattle.side.specs.declared.both.Both.{Both}
use Rattle.side.specs.declared.Side.TheVariants as side
use Rattle.sides.specs.Sides.{Declares, Takes}
use Rattle.sides.specs.declared.setting.Setting.{Setting}
use Rattle.table.specs.Items.{items_of}

module _ {X : Type 0} (A : Algebra) (s : Setting X) (ms : Both Automaton) (f t w : ℕ) (cs : List ℕ) where
  -- the automaton l is given the rule, and is m then
  abbrev TakesRule : Automaton → Result (Unit {0}) Refusal → Automaton → Type 0
  TakesRule l r m =
      let M = automaton_of l in
      Takes (rule_checks A (items_of s.ranks) M f t w cs) r l (ruled M (record { symbol = f; target = t; weight = w; children = cs })) m

  does_at :
      (x : Side) (r : Result (Unit {0}) Refusal) (m : Automaton)
      → TakesRule (at ms x) r m
      → Does A (opened (sides s ms)) (call_rule (number x) f t w cs) r (opened (sides s (with_at ms x m)))
  does_at side.A (Ok v) m h =
      ((refl, (omega arith, h.0)), ap (λ M. opened (record { ranks = items_of s.ranks; a = M; b = automaton_of ms.b })) h.1)
  does_at side.A (Err e) m h = (inr (refl, inr (omega arith, h.0)), ap (λ n. opened (sides s (with_at ms side.A n))) h.1)
  does_at side.B (Ok v) m h =
      ((refl, (omega arith, h.0)), ap (λ M. opened (record { ranks = items_of s.ranks; a = automaton_of ms.a; b = M })) h.1)
  does_at side.B (Err e) m h = (inr (refl, inr (omega arith, h.0)), ap (λ n. opened (sides s (with_at ms side.B n))) h.1)

  pub does_rule :
      (x : Side) (r : Result (Unit {0}) Refusal) (l m : Automaton)
      → l ≡ at ms x
      → TakesRule l r m
      → Does A (opened (sides s ms)) (call_rule (number x) f t w cs) r (opened (sides s (with_at ms x m)))
  does_rule x r l m e h = does_at x r m (subst (λ n. TakesRule n r m) e h)

module _ (A : Algebra) (S : Sides ℕ) (k : ℕ) (ks : List ℕ) where
  abbrev with_ranks : List ℕ → Session
  with_ranks ns = opened (record { ranks = ns; a = S.a; b = S.b })

  pub does_symbol : (r : Result ℕ Refusal) → Declares S.ranks k r ks → Does A (opened S) (call_symbol k) r (with_ranks ks)
  does_symbol (Ok n) h = ((refl, h.0), (h.1, ap with_ranks h.2))
  does_symbol (Err e) h = (inr (refl, h.0), ap with_ranks h.1)

-- a call leaves the state valid over the field that it has
pub still :
    {X : Type 0} (model : X → Algebra) (f g : X) (s t : Session) (c : Call) (o : Outcome c)
    → g ≡ f
    → Valid (model f) s
    → Does (model f) s c o t
    → Valid (model g) t
still {X = X} model f g s t c o kept valid does =
    subst (λ (k : X). Valid (model k) t) (sym kept) (does_still (model f) s t c o valid does)
