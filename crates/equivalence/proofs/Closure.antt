-- What a span is closed under. Assumes nothing.
use Rattle.std.proofs.Common.{◌≡◌, ℕ, zero, suc, List, [], ◌∷◌, ◌++◌, length, sym, refl, ap, ◌∙◌, arith}
use Rattle.std.specs.List.{ContainsAt as Has, AllByRecursion}
use Rattle.std.proofs.ByRecursion.{All-weaker, All-push, all_has_itself, has_append_left, has_push}
use Rattle.field.specs.Ops.{Ops, Ring, dot}
use Rattle.field.proofs.Rings.{nil_sum, unit_prod, prod_nil, nil_prod, sum_prod, sum_across}
use Rattle.equivalence.proofs.Space.{Vector, combined, Spanned}

-- each list's vectors are in the other's span
abbrev pub SameSpan : {K : Type 0} → Ops K → List (Vector K) → List (Vector K) → Type 0
SameSpan o us vs = AllByRecursion (Spanned o us) vs × AllByRecursion (Spanned o vs) us

module _ {K : Type 0} {o : Ops K} (R : Ring o) where
  open o use {nil, unit, sum as ◌⊕◌, prod as ◌⊗◌}
  open R use {sum_nil, prod_assoc, prod_sum}

  infixl 65 ◌⊕◌
  infixl 70 ◌⊗◌
  pub spanned_same : (vs : List (Vector K)) (u v : Vector K) → ((i : ℕ) → v i ≡ u i) → Spanned o vs u → Spanned o vs v
  spanned_same vs u v e s = (s.0, s.1, λ i. e i ∙ s.2 i)

  -- with no vector, and with one more at the front
  pub spanned_none : (v : Vector K) → Spanned o [] v → (i : ℕ) → v i ≡ nil
  spanned_none v s i = s.2 i ∙ go s.0
    where
      go : (cs : List K) → dot o cs [] ≡ nil
      go [] = refl
      go (c ∷ cs) = refl

  pub spanned_cons :
      (x : Vector K) (vs : List (Vector K)) (c : K) (u v : Vector K)
      → Spanned o vs u
      → ((i : ℕ) → v i ≡ c ⊗ x i ⊕ u i)
      → Spanned o (x ∷ vs) v
  spanned_cons x vs c u v s e = (c ∷ s.0, ap suc s.1, λ i. e i ∙ ap (λ w. c ⊗ x i ⊕ w) (s.2 i))

  pub spanned_uncons :
      (x : Vector K) (vs : List (Vector K)) (v : Vector K)
      → Spanned o (x ∷ vs) v
      → (c : K) × (u : Vector K) × Spanned o vs u × ((i : ℕ) → v i ≡ c ⊗ x i ⊕ u i)
  spanned_uncons x vs v s = go s.0 s.1 s.2
    where
      go :
          (cs : List K)
          → length cs ≡ suc (length vs)
          → ((i : ℕ) → v i ≡ combined o cs (x ∷ vs) i)
          → (c : K) × (u : Vector K) × Spanned o vs u × ((i : ℕ) → v i ≡ c ⊗ x i ⊕ u i)
      go [] l e = absurd (omega arith)
      go (c ∷ cs) l e = (c, combined o cs vs, (cs, (omega arith), λ i. refl), e)

  -- A span is the least that holds zero and, with two vectors, a multiple of one plus the other.
  pub spanned_least :
      (P : Vector K → Type 0)
      → ((v : Vector K) → ((i : ℕ) → v i ≡ nil) → P v)
      → ((c : K) (u v w : Vector K) → P u → P v → ((i : ℕ) → w i ≡ c ⊗ u i ⊕ v i) → P w)
      → (vs : List (Vector K)) (v : Vector K)
      → AllByRecursion P vs
      → Spanned o vs v
      → P v
  spanned_least P none more [] v h s = none v (spanned_none v s)
  spanned_least P none more (x ∷ vs) v h s =
      let t = spanned_uncons x vs v s in
      more t.0 x t.1 v h.0 (spanned_least P none more vs t.1 h.1 t.2) t.3

  pub spanned_there : (x : Vector K) (vs : List (Vector K)) (v : Vector K) → Spanned o vs v → Spanned o (x ∷ vs) v
  spanned_there x vs v s = spanned_cons x vs nil v v s (λ i. sym (ap (λ w. w ⊕ v i) (nil_prod R (x i)) ∙ nil_sum R (v i)))

  pub spanned_nil : (vs : List (Vector K)) (v : Vector K) → ((i : ℕ) → v i ≡ nil) → Spanned o vs v
  spanned_nil [] v e = ([], refl, e)
  spanned_nil (x ∷ vs) v e = spanned_there x vs v (spanned_nil vs v e)

  pub spanned_here : (v : Vector K) (vs : List (Vector K)) → Spanned o (v ∷ vs) v
  spanned_here v vs =
      spanned_cons v vs unit (λ i. nil) v (spanned_nil vs (λ i. nil) (λ i. refl)) (λ i. sym (sum_nil (unit ⊗ v i) ∙ unit_prod R (v i)))

  across : (c a b x u v : K) → c ⊗ (a ⊗ x ⊕ u) ⊕ (b ⊗ x ⊕ v) ≡ (c ⊗ a ⊕ b) ⊗ x ⊕ (c ⊗ u ⊕ v)
  across c a b x u v = simp (prod_sum, sum_prod R, prod_assoc) (sum_across R _ _ _ _)

  pub spanned_sum :
      (vs : List (Vector K)) (c : K) (u v w : Vector K)
      → Spanned o vs u
      → Spanned o vs v
      → ((i : ℕ) → w i ≡ c ⊗ u i ⊕ v i)
      → Spanned o vs w
  spanned_sum [] c u v w s t e =
      spanned_nil [] w (λ i. e i ∙ simp (spanned_none u s i, spanned_none v t i, prod_nil R, sum_nil))
  spanned_sum (x ∷ vs) c u v w s t e =
      let a = spanned_uncons x vs u s in
      let b = spanned_uncons x vs v t in
      spanned_cons x vs (c ⊗ a.0 ⊕ b.0) (λ i. c ⊗ a.1 i ⊕ b.1 i) w
      (spanned_sum vs c a.1 b.1 (λ i. c ⊗ a.1 i ⊕ b.1 i) a.2 b.2 (λ i. refl))
      (λ i. e i ∙ rw (a.3 i, b.3 i) (across c a.0 b.0 (x i) (a.1 i) (b.1 i)))

  pub spanned_trans : (vs ws : List (Vector K)) (v : Vector K) → Spanned o ws v → AllByRecursion (Spanned o vs) ws → Spanned o vs v
  spanned_trans vs ws v s h = spanned_least (Spanned o vs) (spanned_nil vs) (spanned_sum vs) ws v h s

  pub spanned_member : (vs : List (Vector K)) (v : Vector K) → Has vs v → Spanned o vs v
  spanned_member [] v m = absurd (omega arith)
  spanned_member (x ∷ vs) v (zero, l, e) = spanned_same (x ∷ vs) x v (λ i. ap (λ w. w i) (sym (e x))) (spanned_here x vs)
  spanned_member (x ∷ vs) v (suc j, l, e) = spanned_there x vs v (spanned_member vs v (j, omega arith, e))

  -- more vectors span more
  pub spanned_front : (vs ws : List (Vector K)) → AllByRecursion (Spanned o (vs ++ ws)) vs
  spanned_front vs ws =
      All-weaker (Has vs) (Spanned o (vs ++ ws)) (λ v m. spanned_member (vs ++ ws) v (has_append_left vs ws v m)) vs (all_has_itself vs)

  pub spanned_append : (vs ws : List (Vector K)) (v : Vector K) → Spanned o vs v → Spanned o (vs ++ ws) v
  spanned_append vs ws v s = spanned_trans (vs ++ ws) vs v s (spanned_front vs ws)

  pub spanned_last : (vs : List (Vector K)) (v : Vector K) → Spanned o (vs ++ (v ∷ [])) v
  spanned_last vs v = spanned_member (vs ++ (v ∷ [])) v (has_push vs v)

  -- lists of vectors, each in the span of another list
  pub spans_trans :
      (us vs ws : List (Vector K)) → AllByRecursion (Spanned o us) vs → AllByRecursion (Spanned o vs) ws → AllByRecursion (Spanned o us) ws
  spans_trans us vs ws h = All-weaker (Spanned o vs) (Spanned o us) (λ w s. spanned_trans us vs w s h) ws

  pub spans_front : (us vs ws : List (Vector K)) → AllByRecursion (Spanned o us) vs → AllByRecursion (Spanned o (us ++ ws)) vs
  spans_front us vs ws = spans_trans (us ++ ws) us vs (spanned_front us ws)

  pub spans_push :
      (us vs : List (Vector K)) (v : Vector K) → AllByRecursion (Spanned o us) vs → AllByRecursion (Spanned o (us ++ (v ∷ []))) (vs ++ (v ∷ []))
  spans_push us vs v h = All-push (Spanned o (us ++ (v ∷ []))) vs v (spans_front us vs (v ∷ []) h) (spanned_last us v)

  -- where each of the vectors is zero, their span is
  pub spanned_nil_at : (p : ℕ) (vs : List (Vector K)) (v : Vector K) → AllByRecursion (λ w. w p ≡ nil) vs → Spanned o vs v → v p ≡ nil
  spanned_nil_at p =
      spanned_least (λ w. w p ≡ nil) (λ v e. e p) (λ c u v w hu hv e. e p ∙ rw (hu, hv) (sum_nil (c ⊗ nil) ∙ prod_nil R c))

  pub spanned_scaled : (vs : List (Vector K)) (c : K) (v : Vector K) → Spanned o vs v → Spanned o vs (λ i. c ⊗ v i)
  spanned_scaled vs c v s =
      spanned_sum vs c v (λ i. nil) (λ i. c ⊗ v i) s (spanned_nil vs (λ i. nil) (λ i. refl)) (λ i. sym (sum_nil (c ⊗ v i)))

  -- lists of vectors with the same span
  pub same_span_push :
      (us vs : List (Vector K)) (v : Vector K) → SameSpan o us vs → SameSpan o (us ++ (v ∷ [])) (vs ++ (v ∷ []))
  same_span_push us vs v h = (spans_push us vs v h.0, spans_push vs us v h.1)

  pub same_span_trans : (us vs ws : List (Vector K)) → SameSpan o us vs → SameSpan o vs ws → SameSpan o us ws
  same_span_trans us vs ws h k = (spans_trans us vs ws h.0 k.0, spans_trans ws vs us k.1 h.1)

  pub same_span_last :
      (vs : List (Vector K)) (u v : Vector K)
      → Spanned o (vs ++ (u ∷ [])) v
      → Spanned o (vs ++ (v ∷ [])) u
      → SameSpan o (vs ++ (u ∷ [])) (vs ++ (v ∷ []))
  same_span_last vs u v s t =
      (All-push _ vs v (spanned_front vs (u ∷ [])) s, All-push _ vs u (spanned_front vs (v ∷ [])) t)
