-- Every refusal has its cause. Assumes nothing.
use Rattle.std.proofs.Common.{ℕ, ◌<◌, ◌≤◌, ◌⊎◌, List, [], ◌∷◌, map, Err, sym, subst, inl, inr, ⊎_elim, arith}
use Rattle.std.specs.List.{AllByRecursion}
use Rattle.std.proofs.lemmas.Bool.{cases_lt}
use Rattle.field.specs.Algebra.{Algebra}
use Rattle.equivalence.specs.Automata.{Automaton, states}
use Rattle.refusals.specs.declared.Refusal.{Refusal}
use Rattle.session.specs.Calls.{Call, Check, Does, FirstFailing, StateOf, checks, call_symbol, call_rule, call_final, call_weigh}
use Rattle.session.specs.Causes.{Among, Cause}
use Rattle.session.specs.Sessions.{Session, side}

abbrev Explained : (Refusal → Type 0) → List Check → Type 0
Explained P [] = Unit {0}
Explained P (k ∷ ks) = ((k.passes → ⊥) → P k.refusal) × Explained P ks

explained : (P : Refusal → Type 0) (ks : List Check) (e : Refusal) → Explained P ks → FirstFailing ks e → P e
explained P [] e h f = absurd f
explained P (k ∷ ks) e h (inl f) = subst P (sym f.1) (h.0 f.0)
explained P (k ∷ ks) e h (inr f) = explained P ks e h.1 f.1

more_than : (a b : ℕ) → (a ≤ b → ⊥) → b < a
more_than a b h = ⊎_elim (λ k. k) (λ k. absurd (h k)) (cases_lt b a)

no_less : (a b : ℕ) → (a < b → ⊥) → b ≤ a
no_less a b h = ⊎_elim (λ k. absurd (h k)) (λ k. k) (cases_lt a b)

state_or_not : (M : Automaton ℕ) (q : ℕ) → StateOf M q ⊎ (StateOf M q → ⊥)
state_or_not M q =
    ⊎_elim (λ z. inr (λ h. absurd (omega arith)))
    (λ l. ⊎_elim (λ z. inr (λ h. absurd (omega arith))) (λ k. inl (l, k)) (cases_lt (states M) q))
    (cases_lt q 1)

some_child : (M : Automaton ℕ) (cs : List ℕ) → (AllByRecursion (StateOf M) cs → ⊥) → Among (λ (p : Automaton ℕ × ℕ). StateOf p.0 p.1 → ⊥) (map (λ q. (M, q)) cs)
some_child M [] h = h tt
some_child M (q ∷ cs) h = ⊎_elim (λ is. inr (some_child M cs (λ all. h (is, all)))) (λ not. inl not) (state_or_not M q)

explains : (A : Algebra) (s : Session) (c : Call) → Explained (Cause A s c) (checks A s c)
explains A s (call_symbol k) = (λ h. (tt, h), (λ h. inl (more_than k 3 h), (λ h. inl (no_less _ 12 h), tt)))
explains A s (call_rule x f t w cs) = (
  λ h. (tt, h),
  (
    λ h. inl (more_than x 1 h),
    (
      λ h. inl (inl h),
      (
        λ h. inl h,
        (
          λ h. inr (inl h),
          (
            λ h. inr (inr (some_child (side s.sides x) cs h)),
            (λ h. inl (no_less w A.size h), (λ h. inl (no_less _ 256 h), tt)),
          ),
        ),
      ),
    ),
  ),
)
explains A s (call_final x q w) = (
  λ h. (tt, h),
  (λ h. inl (more_than x 1 h), (λ h. inr (inl h), (λ h. inl (no_less w A.size h), tt))),
)
explains A s (call_weigh x es) = (λ h. inl (more_than x 1 h), (λ h. inl h, tt))

pub for_cause : (A : Algebra) (s t : Session) (c : Call) (e : Refusal) → Does A s c (Err e) t → Cause A s c e
for_cause A s t c e d = explained (Cause A s c) (checks A s c) e (explains A s c) d.0
