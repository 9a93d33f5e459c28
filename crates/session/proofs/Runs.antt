-- Runs carried from call to call, runs with their refused calls left out, and what their calls decide. Assumes nothing.
use Rattle.std.proofs.Common.{◌≡◌, ℕ, List, [], ◌∷◌, ◌++◌, Ok, Err, sym, refl, ap, ◌∙◌, subst, ap₂, arith}
use Rattle.field.specs.Algebra.{Algebra}
use Rattle.session.specs.Calls.{Call, Outcome, Does}
use Rattle.session.specs.Runs.{Event, Run, accepted, calls}
use Rattle.session.specs.Sessions.{Session}
use Rattle.session.proofs.Outcomes.{one_outcome}

abbrev pub made : (c : Call) → Outcome c → Event
made c o = record { call = c; outcome = o }

-- one run after another
pub run_append :
    (A : Algebra) (s t u : Session) (es fs : List Event) → Run A s es t → Run A t fs u → Run A s (es ++ fs) u
run_append A s t u [] fs h k = subst (λ (z : Session). Run A z fs u) h k
run_append A s t u (e ∷ es) fs h k = (h.0, h.1, run_append A h.0 t u es fs h.2 k)

-- the next call
pub run_more :
    (A : Algebra) (s t u : Session) (es : List Event) (c : Call) (o : Outcome c)
    → Run A s es t
    → Does A t c o u
    → Run A s (es ++ (made c o ∷ [])) u
run_more A s t u es c o h d = run_append A s t u es (made c o ∷ []) h (u, d, refl)

accepted_step :
    (A : Algebra) (s u t : Session) (c : Call) (o : Outcome c) (es : List Event)
    → Does A s c o u
    → Run A u (accepted es) t
    → Run A s (accepted (made c o ∷ es)) t
accepted_step A s u t c (Ok v) es d r = (u, d, r)
accepted_step A s u t c (Err e) es d r = subst (λ (z : Session). Run A z (accepted es) t) d.1 r

pub accepted_alone : (A : Algebra) (s t : Session) (es : List Event) → Run A s es t → Run A s (accepted es) t
accepted_alone A s t [] h = h
accepted_alone A s t (e ∷ es) h =
    accepted_step A s h.0 t e.call e.outcome es h.1 (accepted_alone A h.0 t es h.2)

same_event :
    (A : Algebra) (s t u : Session) (c d : Call) (o : Outcome c) (p : Outcome d)
    → c ≡ d
    → Does A s c o t
    → Does A s d p u
    → (made c o ≡ made d p) × (t ≡ u)
same_event A s t u c d o p same h =
    subst (λ (b : Call). (q : Outcome b) → Does A s b q u → (made c o ≡ made b q) × (t ≡ u)) same
    (λ q k. let one = one_outcome A s t u c o q h k in (ap (made c) one.0, one.1))
    p

pub calls_decide :
    (A : Algebra) (s t u : Session) (es fs : List Event)
    → calls es ≡ calls fs
    → Run A s es t
    → Run A s fs u
    → (es ≡ fs) × (t ≡ u)
calls_decide A s t u [] [] p h k = (refl, h ∙ sym k)
calls_decide A s t u [] (f ∷ fs) p h k = let z : ◌≡◌ {A = ℕ} 0 1 = cc p in absurd (omega arith)
calls_decide A s t u (e ∷ es) [] p h k = let z : ◌≡◌ {A = ℕ} 0 1 = cc p in absurd (omega arith)
calls_decide A s t u (e ∷ es) (f ∷ fs) p h k =
    let same : e.call ≡ f.call = cc p in
    let first = same_event A s h.0 k.0 e.call f.call e.outcome f.outcome same h.1 k.1 in
    let rest = calls_decide A h.0 t u es fs (cc p) h.2 (subst (λ (z : Session). Run A z fs u) (sym first.1) k.2) in
    (ap₂ (λ x xs. x ∷ xs) first.0 rest.0, rest.1)
