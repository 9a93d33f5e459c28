-- The inverse as it is defined, a first number that passes a test, is the inverse that a law speaks of. Assumes nothing.
use Rattle.std.proofs.Common.{◌≡◌, ℕ, zero, suc, ◌^◌, ◌<◌, ◌≤◌, Bool, true, false, Some, None, Option, refl, ap, ◌∙◌, subst, ⊎_elim, arith}
use Rattle.std.proofs.lemmas.Bool.{eq-eqb, ne_eqb, eqb-true, cases_Bool, cases_eq, cases_lt}
use Rattle.field.specs.Algebra.{Algebra, RingLaws, Lawful, first, or_else, inverse, Quotient}
use Rattle.field.proofs.Codes.{Code, code_path, carrier_ring, elements, elements_ring}
use Rattle.field.proofs.Rings.{inverse_unique, nil_prod, prod_left_comm}

pub first_none : (f : ℕ → Bool) (n : ℕ) → ((k : ℕ) → k < n → f k ≡ false) → first f n ≡ None
unfolding first
first_none f zero h = refl
first_none f (suc n) h = rw (first_none f n (λ k l. h k (omega arith)), h n (omega arith)) refl

pub none_first : (f : ℕ → Bool) (n : ℕ) → first f n ≡ None → (k : ℕ) → k < n → f k ≡ false
unfolding first
none_first f zero e k l = absurd (omega arith)
none_first f (suc n) e k l = go (first f n) (f n) refl refl e (λ h m. none_first f n h k m)
  where
    go :
        (r : Option ℕ) (b : Bool)
        → first f n ≡ r
        → f n ≡ b
        → or_else r b n ≡ None
        → (first f n ≡ None → k < n → f k ≡ false)
        → f k ≡ false
    go (Some y) b p q h rec = absurd (let z : ◌≡◌ {A = ℕ} 0 1 = cc in omega arith)
    go None true p q h rec = absurd (let z : ◌≡◌ {A = ℕ} 0 1 = cc in omega arith)
    go None false p q h rec =
        ⊎_elim (λ (m : k < n). rec p m) (λ (m : n ≤ k). let e : k ≡ n = omega arith in ap f e ∙ q) (cases_lt k n)

pub first_some :
    (f : ℕ → Bool) (n y : ℕ) → y < n → f y ≡ true → ((k : ℕ) → k < n → f k ≡ true → k ≡ y) → first f n ≡ Some y
unfolding first
first_some f zero y l t only = absurd (omega arith)
first_some f (suc n) y l t only =
    ⊎_elim
    (λ (e : y ≡ n).
    rw (
      first_none f n
          (λ k m. ⊎_elim (λ (b : f k ≡ true). absurd (let d = only k (omega arith) b in omega arith)) (λ b. b) (cases_Bool (f k))),
      ← e,
      t,
    )
    refl)
    (λ (ne : y ≡ n → ⊥). rw (first_some f n y (omega arith) t (λ k m. only k (omega arith))) refl)
    (cases_eq y n)

module _ (A : Algebra) (L : RingLaws A) (two : 2 ≤ A.size) where
  pub inverse_is : (x y : ℕ) → x < A.size → y < A.size → A.prod x y ≡ 1 → inverse A x ≡ Some y
  unfolding inverse
  inverse_is x y hx hy e =
      first_some _ A.size y hy (eq-eqb _ _ e)
      (λ k hk t.
      ap (λ (c : Code A.size). c.0)
      (inverse_unique (carrier_ring A L two) (x, hx) (y, hy) (k, hk) (code_path _ _ e) (code_path _ _ (eqb-true _ _ t))))

  zero_prod : (k : ℕ) → k < A.size → A.prod 0 k ≡ 0
  zero_prod k hk = ap (λ (c : Code A.size). c.0) (nil_prod (carrier_ring A L two) (k, hk))

  pub inverse_of_zero : inverse A 0 ≡ None
  unfolding inverse
  inverse_of_zero = first_none _ A.size (λ k hk. ne_eqb _ _ (λ e. let z = zero_prod k hk in omega arith))

  -- An algebra that keeps the ring laws is a field as soon as each element but zero has an inverse.
  pub lawful :
      A.size ≤ 2 ^ 32
      → ((x : ℕ) → x < A.size → (x ≡ 0 → ⊥) → (y : ℕ) × (y < A.size) × (A.prod x y ≡ 1))
      → Lawful A
  lawful most has =
      record {
        least = two;
        most = most;
        ring = L;
        inverse_zero = inverse_of_zero;
        inverse_prod = λ x hx ne. let h = has x hx ne in (h.0, inverse_is x h.0 hx h.1 h.2, h.1, h.2);
      }

-- What a lawful field's inverse tells of its argument.
module _ (A : Algebra) (L : Lawful A) where
  pub inverse_some : (x y : ℕ) → x < A.size → inverse A x ≡ Some y → (x ≡ 0 → ⊥) × (y < A.size) × (A.prod x y ≡ 1)
  inverse_some x y hx e =
      let nonzero : x ≡ 0 → ⊥ = λ z. (let n : ◌≡◌ {A = ℕ} 0 1 = cc (L.inverse_zero, z, e) in omega arith) in
      let h = L.inverse_prod x hx nonzero in
      let same : h.0 ≡ y = cc (h.1, e) in
      (nonzero, subst (λ z. z < A.size) same h.2, subst (λ z. A.prod x z ≡ 1) same h.3)

  pub inverse_none : (x : ℕ) → x < A.size → inverse A x ≡ None → x ≡ 0
  inverse_none x hx e =
      ⊎_elim (λ (z : x ≡ 0). z)
      (λ (ne : x ≡ 0 → ⊥).
      let h = L.inverse_prod x hx ne in
      let n : ◌≡◌ {A = ℕ} 0 1 = cc (h.1, e) in absurd (omega arith))
      (cases_eq x 0)

  -- a times the inverse of b is the quotient of a by b
  pub quotient :
      (a b c r : ℕ) → a < A.size → b < A.size → inverse A b ≡ Some c → r ≡ A.prod a c → Quotient A a b (Some r)
  quotient a b c r ha hb e is =
      let h = inverse_some b c hb e in
      let R = elements_ring A L in
      let back = ap (λ (k : Code A.size). k.0)
      (prod_left_comm R (b, hb) (a, ha) (c, h.1) ∙ ap ((elements A L).prod (a, ha)) (code_path _ _ h.2) ∙ R.prod_unit (a, ha)) in
      (h.0, rw is (L.ring.prod_below a c ha h.1), rw is back)
