-- A call has one outcome and leads to one session. Assumes nothing.
use Rattle.std.proofs.Common.{◌≡◌, ℕ, true, ◌↔◌, List, [], ◌∷◌, is_ok, Ok, Err, sym, refl, ap, ◌∙◌, inl, inr, arith}
use Rattle.field.specs.Algebra.{Algebra}
use Rattle.refusals.specs.declared.Refusal.{Refusal}
use Rattle.session.specs.Calls.{Call, Given, Outcome, Check, AllPass, FirstFailing, After, Does, checks, call_symbol, call_rule, call_final, call_weigh}
use Rattle.session.specs.Sessions.{Session}

pub not_both : (cs : List Check) (e : Refusal) → AllPass cs → FirstFailing cs e → ⊥
not_both [] e a f = f
not_both (c ∷ cs) e a (inl f) = f.0 a.0
not_both (c ∷ cs) e a (inr f) = not_both cs e a.1 f.1

pub one_failing : (cs : List Check) (e f : Refusal) → FirstFailing cs e → FirstFailing cs f → e ≡ f
one_failing [] e f h k = absurd h
one_failing (c ∷ cs) e f (inl h) (inl k) = h.1 ∙ sym k.1
one_failing (c ∷ cs) e f (inl h) (inr k) = absurd (h.0 k.0)
one_failing (c ∷ cs) e f (inr h) (inl k) = absurd (k.0 h.0)
one_failing (c ∷ cs) e f (inr h) (inr k) = one_failing cs e f h.1 k.1

pub one_after :
    (A : Algebra) (s t u : Session) (c : Call) (v w : Given c)
    → After A s c v t
    → After A s c w u
    → (v ≡ w) × (t ≡ u)
one_after A s t u (call_symbol k) v w h j = (h.0 ∙ sym j.0, h.1 ∙ sym j.1)
one_after A s t u (call_rule x f q z cs) v w h j = (refl, h ∙ sym j)
one_after A s t u (call_final x q z) v w h j = (refl, h ∙ sym j)
one_after A s t u (call_weigh x es) v w h j = (h.0 ∙ sym j.0, h.1 ∙ sym j.1)

pub one_outcome :
    (A : Algebra) (s t u : Session) (c : Call) (o p : Outcome c)
    → Does A s c o t
    → Does A s c p u
    → (o ≡ p) × (t ≡ u)
one_outcome A s t u c (Ok v) (Ok w) h k = let e = one_after A s t u c v w h.1 k.1 in (ap Ok e.0, e.1)
one_outcome A s t u c (Ok v) (Err f) h k = absurd (not_both (checks A s c) f h.0 k.0)
one_outcome A s t u c (Err e) (Ok w) h k = absurd (not_both (checks A s c) e k.0 h.0)
one_outcome A s t u c (Err e) (Err f) h k = (ap Err (one_failing (checks A s c) e f h.0 k.0), h.1 ∙ sym k.1)

pub accepted_when :
    (A : Algebra) (s t : Session) (c : Call) (o : Outcome c) → Does A s c o t → (is_ok o ≡ true) ↔ AllPass (checks A s c)
accepted_when A s t c (Ok v) h = (λ _. h.0, λ _. refl)
accepted_when A s t c (Err e) h =
    (λ p. let z : ◌≡◌ {A = ℕ} 0 1 = cc p in absurd (omega arith), λ a. absurd (not_both (checks A s c) e a h.0))
