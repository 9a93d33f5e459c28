-- Functionals and multilinear maps on spans, and the number of independent vectors. Assumes nothing.
use Rattle.std.proofs.Common.{◌≡◌, ℕ, zero, suc, ◌+◌, ◌<◌, ◌≤◌, ◌⊎◌, List, [], ◌∷◌, ◌++◌, map, length, get_or, take, sym, refl, ap, ◌∙◌, subst, inl, inr, ⊎_elim, arith, length-append, take-suc}
use Rattle.std.specs.List.{ContainsAt as Has, AllByRecursion}
use Rattle.std.proofs.lemmas.List.{append-nil, append_assoc, length_push, length-map, length-take-le, map_push}
use Rattle.std.proofs.ByRecursion.{All-weaker, All-map, All-push, all_has_itself, All-take}
use Rattle.std.proofs.lemmas.Bool.{cases_lt}
use Rattle.field.specs.Ops.{Ops, Ring, dot}
use Rattle.field.proofs.Rings.{prod_nil}
use Rattle.equivalence.proofs.Lists.{map_same}
use Rattle.equivalence.proofs.Space.{Vector, Spanned, Functional, Multilinear}
use Rattle.equivalence.proofs.Closure.{spans_push, spans_trans, spanned_nil_at}
use Rattle.equivalence.proofs.Elimination.{
  Row,
  vectors,
  Echelon,
  place_of,
  reduced,
  scaled,
  echelon_few,
  echelon_more,
  reduced_spanned,
  echelon_same_span,
  spanned_from_reduced,
}
pub use Rattle.equivalence.proofs.Closure.{spanned_member, spanned_trans}

module _ {K : Type 0} {o : Ops K} (R : Ring o) where
  -- two functionals that agree on the vectors agree on their span
  pub functionals_agree :
      (f g : Vector K → K)
      → Functional o f
      → Functional o g
      → (vs : List (Vector K)) (v : Vector K)
      → AllByRecursion (λ w. f w ≡ g w) vs
      → Spanned o vs v
      → f v ≡ g v
  functionals_agree f g lf lg vs v h s =
      lf s.0 vs v s.1 s.2 ∙ ap (dot o s.0) (map_same f g vs h) ∙ sym (lg s.0 vs v s.1 s.2)

  -- A multilinear map of rows of vectors from a span lies where its values at rows of the spanning vectors lie.
  module _
      (f : List (Vector K) → Vector K) (lf : Multilinear o f) (us vs : List (Vector K)) (k : ℕ)
      (at : (row : List (Vector K)) → length row ≡ k → AllByRecursion (Has vs) row → Spanned o us (f row)) where
    -- a front of spanning vectors, and a rest from their span
    spanned_rest :
        (done rest : List (Vector K))
        → length (done ++ rest) ≡ k
        → AllByRecursion (Has vs) done
        → AllByRecursion (Spanned o vs) rest
        → Spanned o us (f (done ++ rest))
    spanned_rest done [] l m h = subst (λ row. Spanned o us (f row)) (sym (append-nil done)) (at done (ap length (sym (append-nil done)) ∙ l) m)
    spanned_rest done (v ∷ rest) l m h =
        spanned_trans R us (map (λ w. f (done ++ (w ∷ rest))) vs) (f (done ++ (v ∷ rest)))
        (h.0.0, h.0.1 ∙ sym (length-map vs _), lf done rest h.0.0 vs v h.0.1 h.0.2)
        (All-map (Spanned o us) (λ w. f (done ++ (w ∷ rest))) vs
        (All-weaker (Has vs) (λ w. Spanned o us (f (done ++ (w ∷ rest))))
        (λ w a.
        subst (λ row. Spanned o us (f row)) (append_assoc done (w ∷ []) rest)
        (spanned_rest (done ++ (w ∷ [])) rest (simp length-append (omega (arith, simp length-append at l))) (All-push (Has vs) done w m a) h.1))
        vs (all_has_itself vs)))

  pub spanned_rows :
      (f : List (Vector K) → Vector K)
      → Multilinear o f
      → (us vs : List (Vector K)) (k : ℕ)
      → ((row : List (Vector K)) → length row ≡ k → AllByRecursion (Has vs) row → Spanned o us (f row))
      → (row : List (Vector K))
      → length row ≡ k
      → AllByRecursion (Spanned o vs) row
      → Spanned o us (f row)
  spanned_rows f lf us vs k at row l h = spanned_rest f lf us vs k at [] row l tt h

  -- Over a field, vectors of n places none of which is a sum of multiples of those before it are at most n.
  module _
      (has : (x : K) → (x ≡ o.nil → ⊥) → (y : K) × (o.prod x y ≡ o.unit))
      (decide : (x : K) → (x ≡ o.nil) ⊎ (x ≡ o.nil → ⊥)) where
    -- a place below n where the vector is not zero, if there is one
    some_place :
        (n : ℕ) (v : Vector K) → ((p : ℕ) × (p < n) × (v p ≡ o.nil → ⊥)) ⊎ ((i : ℕ) → i < n → v i ≡ o.nil)
    some_place zero v = inr (λ i l. absurd (omega arith))
    some_place (suc n) v =
        ⊎_elim (λ (f : (p : ℕ) × (p < n) × (v p ≡ o.nil → ⊥)). inl (f.0, omega arith, f.2))
        (λ (z : (i : ℕ) → i < n → v i ≡ o.nil).
        ⊎_elim
        (λ (e : v n ≡ o.nil).
        inr (λ i l. ⊎_elim (λ (k : i < n). z i k) (λ (k : n ≤ i). ap v (omega arith) ∙ e) (cases_lt i n)))
        (λ (ne : v n ≡ o.nil → ⊥). inl (n, omega arith, ne))
        (decide (v n)))
        (some_place n v)

    -- as many rows in echelon form as vectors, from their span
    Basis : ℕ → List (Vector K) → Type 0
    Basis n vs =
        (rows : List (Row (Vector K))) × Echelon o place_of n rows × (length rows ≡ length vs)
        × AllByRecursion (Spanned o vs) (vectors rows)

    basis_push :
        (n : ℕ) (vs : List (Vector K)) (v : Vector K)
        → AllByRecursion (λ w. (i : ℕ) → n ≤ i → w i ≡ o.nil) (vs ++ (v ∷ []))
        → (Spanned o vs v → ⊥)
        → Basis n vs
        → Basis n (vs ++ (v ∷ []))
    unfolding Basis
    basis_push n vs v short free b =
        let w = reduced o b.0 v in
        let all = spans_push R vs (vectors b.0) v b.3 in
        ⊎_elim
        (λ (f : (p : ℕ) × (p < n) × (w p ≡ o.nil → ⊥)).
        let y = has (w f.0) f.2 in
        let row : Row (Vector K) = (f.0, scaled o y.0 w) in (
          b.0 ++ (row ∷ []),
          echelon_more R n b.0 v f.0 y.0 y.1 b.1 f.1,
          simp length_push (ap (λ m. m + 1) b.2),
          rw map_push
              (spans_trans R (vs ++ (v ∷ [])) (vectors b.0 ++ (v ∷ [])) (vectors b.0 ++ (scaled o y.0 w ∷ [])) all
              (echelon_same_span R n b.0 v f.0 y.0 y.1).0),
        ))
        (λ (z : (i : ℕ) → i < n → w i ≡ o.nil).
        absurd
        (free
        (spanned_trans R vs (vectors b.0) v
        (spanned_from_reduced R b.0 v
        (λ i.
        ⊎_elim (z i)
        (λ (k : n ≤ i).
        spanned_nil_at R i (vs ++ (v ∷ [])) w (All-weaker _ (λ u. u i ≡ o.nil) (λ u h. h i k) (vs ++ (v ∷ [])) short)
        (spanned_trans R (vs ++ (v ∷ [])) (vectors b.0 ++ (v ∷ [])) w (reduced_spanned R b.0 v) all))
        (cases_lt i n)))
        b.3)))
        (some_place n w)

    pub independent_few :
        (n : ℕ) (vs : List (Vector K))
        → AllByRecursion (λ v. (i : ℕ) → n ≤ i → v i ≡ o.nil) vs
        → ((j : ℕ) (d : Vector K) → j < length vs → Spanned o (take j vs) (get_or vs j d) → ⊥)
        → length vs ≤ n
    unfolding Basis
    independent_few n [] short free = omega arith
    independent_few n (v ∷ vs) short free =
        let b = go (suc (length vs)) (omega arith) in
        let one : o.unit ≡ o.nil → ⊥ = λ e.
        free 0 v (omega arith) ([], refl, λ i. sym (R.prod_unit (v i)) ∙ ap (o.prod (v i)) e ∙ prod_nil R (v i)) in
        let few = echelon_few o place_of n b.0 one b.1 in
        let all = length-take-le (length (v ∷ vs)) (v ∷ vs) (omega arith) in
        omega arith
      where
        go : (j : ℕ) → j ≤ length (v ∷ vs) → Basis n (take j (v ∷ vs))
        go zero l = ([], tt, refl, tt)
        go (suc j) l =
            subst (Basis n) (sym (take-suc (v ∷ vs) j v l))
            (basis_push n (take j (v ∷ vs)) (get_or (v ∷ vs) j v)
            (subst (AllByRecursion (λ w. (i : ℕ) → n ≤ i → w i ≡ o.nil)) (take-suc (v ∷ vs) j v l) (All-take _ (suc j) (v ∷ vs) short))
            (free j v l) (go j (omega arith)))
