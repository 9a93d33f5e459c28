-- One call more of those that give a record's lists: what the session is after it, and that it is not refused.
use Rattle.std.proofs.Common.{◌≡◌, ℕ, ◌-◌, ◌<◌, ◌≤◌, List, [], ◌∷◌, ◌++◌, length, set, Ok, Result, sym, ap, ◌∙◌, subst, append_assoc, arith}
use Rattle.std.specs.Result.{IsOk}
use Rattle.field.specs.Algebra.{Algebra}
use Rattle.equivalence.specs.Automata.{Rule, states}
use Rattle.refusals.specs.declared.Refusal.{Refusal}
use Rattle.session.specs.Calls.{After, AllPass, Call, Does, Given, Outcome, call_final, call_rule, checks}
use Rattle.session.specs.Sessions.{Session, side as side_at, with_final, with_rule, with_sides}
use Rattle.session.specs.Validity.{ValidRule}
use Rattle.side.specs.Numbers.{number}
use Rattle.side.specs.declared.Side.{Side}
use Rattle.side.specs.declared.Side.TheVariants as side
use Rattle.session.specs.declared.Phase.TheVariants.{Open}
use Rattle.session.proofs.Outcomes.{accepted_when}
use Rattle.opening.specs.Opening.{with_finals, with_rules, with_symbols}

-- the session with other lists
abbrev pub symbolled : Session → List ℕ → Session
symbolled s ks = with_sides s (with_symbols s.sides ks)

abbrev pub finished : Session → ℕ → List ℕ → Session
finished s x ws = with_sides s (with_finals s.sides x ws)

abbrev pub ruled_by : Session → ℕ → List (Rule ℕ) → Session
ruled_by s x rs = with_sides s (with_rules s.sides x rs)

-- what an accepted call with no result does
does_ok :
    (A : Algebra) (s t : Session) (c : Call) (o : Outcome c) (v : Given c)
    → o ≡ Ok v
    → Does A s c o t
    → After A s c v t
does_ok A s t c o v is d = (subst (λ (p : Outcome c). Does A s c p t) is d).1

-- the side d of the session s, to which fs or rs were given after s₀, is given one more by a call that leads to t
module _ (A : Algebra) (s₀ s t : Session) (o : Result (Unit {0}) Refusal) where
  pub final_accepted :
      (d : Side) (q w : ℕ) (fs : List ℕ)
      → s ≡ finished s₀ (number d) fs
      → s₀.phase ≡ Open
      → (1 ≤ q) × (q ≤ length fs)
      → w < A.size
      → Does A s (call_final (number d) q w) o t
      → IsOk o
  final_accepted side.A q w fs is open' state below does =
      (accepted_when A s t (call_final 0 q w) o does).1
      (subst (λ (z : Session). AllPass (checks A z (call_final 0 q w))) (sym is) (open', (omega arith, (state, (below, tt)))))
  final_accepted side.B q w fs is open' state below does =
      (accepted_when A s t (call_final 1 q w) o does).1
      (subst (λ (z : Session). AllPass (checks A z (call_final 1 q w))) (sym is) (open', (omega arith, (state, (below, tt)))))

  pub rule_accepted :
      (d : Side) (r : Rule ℕ) (rs : List (Rule ℕ))
      → s ≡ ruled_by s₀ (number d) rs
      → s₀.phase ≡ Open
      → ValidRule A.size s₀.sides.ranks (states (side_at s₀.sides (number d))) r
      → length ((side_at s₀.sides (number d)).rules ++ rs) < 256
      → Does A s (call_rule (number d) r.symbol r.target r.weight r.children) o t
      → IsOk o
  rule_accepted side.A r rs is open' v room does =
      (accepted_when A s t (call_rule 0 r.symbol r.target r.weight r.children) o does).1
      (subst (λ (z : Session). AllPass (checks A z (call_rule 0 r.symbol r.target r.weight r.children))) (sym is)
      (open', (omega arith, (v.symbol, (v.as_many, (v.target, (v.children, (v.weight, (room, tt)))))))))
  rule_accepted side.B r rs is open' v room does =
      (accepted_when A s t (call_rule 1 r.symbol r.target r.weight r.children) o does).1
      (subst (λ (z : Session). AllPass (checks A z (call_rule 1 r.symbol r.target r.weight r.children))) (sym is)
      (open', (omega arith, (v.symbol, (v.as_many, (v.target, (v.children, (v.weight, (room, tt)))))))))

  pub final_more :
      (d : Side) (q w : ℕ) (fs gs : List ℕ)
      → s ≡ finished s₀ (number d) fs
      → o ≡ Ok tt
      → Does A s (call_final (number d) q w) o t
      → gs ≡ set fs (q - 1) w
      → t ≡ finished s₀ (number d) gs
  final_more side.A q w fs gs e k does h =
      does_ok A s t (call_final 0 q w) o tt k does
      ∙ (ap (λ z. with_sides z (with_final z.sides 0 q w)) e ∙ ap (finished s₀ 0) (sym h))
  final_more side.B q w fs gs e k does h =
      does_ok A s t (call_final 1 q w) o tt k does
      ∙ (ap (λ z. with_sides z (with_final z.sides 1 q w)) e ∙ ap (finished s₀ 1) (sym h))

  pub rule_more :
      (d : Side) (r : Rule ℕ) (rs ps : List (Rule ℕ))
      → s ≡ ruled_by s₀ (number d) rs
      → o ≡ Ok tt
      → Does A s (call_rule (number d) r.symbol r.target r.weight r.children) o t
      → ps ≡ rs ++ (r ∷ [])
      → t ≡ ruled_by s₀ (number d) ps
  rule_more side.A r rs ps e k does h =
      does_ok A s t (call_rule 0 r.symbol r.target r.weight r.children) o tt k does
      ∙ (ap (λ z. with_sides z (with_rule z.sides 0 r)) e
      ∙ ap (λ ms. with_sides s₀ (record { ranks = s₀.sides.ranks; a = record { finals = s₀.sides.a.finals; rules = ms }; b = s₀.sides.b }))
      (append_assoc s₀.sides.a.rules rs (r ∷ []) ∙ ap (λ ms. s₀.sides.a.rules ++ ms) (sym h)))
  rule_more side.B r rs ps e k does h =
      does_ok A s t (call_rule 1 r.symbol r.target r.weight r.children) o tt k does
      ∙ (ap (λ z. with_sides z (with_rule z.sides 1 r)) e
      ∙ ap (λ ms. with_sides s₀ (record { ranks = s₀.sides.ranks; a = s₀.sides.a; b = record { finals = s₀.sides.b.finals; rules = ms } }))
      (append_assoc s₀.sides.b.rules rs (r ∷ []) ∙ ap (λ ms. s₀.sides.b.rules ++ ms) (sym h)))
