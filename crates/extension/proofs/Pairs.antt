-- The quadratic extension over an abstract carrier: its ring laws, and its norm. Assumes nothing.
use Rattle.std.proofs.Common.{◌≡◌, ◌⊎◌, sym, ap, ◌∙◌, ap₂, ⊎_elim}
use Rattle.field.specs.Ops.{Ops, Ring}
use Rattle.field.proofs.Rings.{nil_sum, sum_prod, sum_left_comm, prod_left_comm, opp_opp, opp_cancel, opp_sum, opp_nil, difference_nil, prod_nil, nil_prod, prod_opp, opp_prod}
use Rattle.extension.specs.Extension.{pairs, norm}

module _ {K : Type 0} {o : Ops K} (R : Ring o) (u v : K) where
  open o use {nil, unit, opp, sum as ◌⊕◌, prod as ◌⊗◌}
  open R use {sum_assoc, sum_comm, sum_nil, sum_opp, prod_assoc, prod_comm, prod_unit, prod_sum}

  infixl 65 ◌⊕◌
  infixl 70 ◌⊗◌
  pair : {a b c d : K} → a ≡ c → b ≡ d → ◌≡◌ {A = K × K} (a, b) (c, d)
  pair p q = ap₂ (λ x y. (x, y)) p q

  pub pairs_ring : Ring (pairs o u v)
  pairs_ring =
      record {
        sum_assoc = λ x y z. pair (sum_assoc x.0 y.0 z.0) (sum_assoc x.1 y.1 z.1);
        sum_comm = λ x y. pair (sum_comm x.0 y.0) (sum_comm x.1 y.1);
        sum_nil = λ x. pair (sum_nil x.0) (sum_nil x.1);
        sum_opp = λ x. pair (sum_opp x.0) (sum_opp x.1);
        prod_assoc =
            λ x y z.
            pair (simp (sum_prod R, prod_sum, sum_assoc, sum_left_comm R, prod_assoc, prod_comm, prod_left_comm R))
            (simp (sum_prod R, prod_sum, sum_assoc, sum_comm, sum_left_comm R, prod_assoc, prod_comm, prod_left_comm R));
        prod_comm = λ x y. pair (simp prod_comm) (simp (prod_comm, sum_comm));
        prod_unit = λ x. pair (simp (prod_unit, prod_nil R, nil_prod R, sum_nil)) (simp (prod_unit, prod_nil R, nil_prod R, sum_nil, nil_sum R));
        prod_sum =
            λ x y z.
            pair (simp (sum_prod R, prod_sum, sum_assoc, sum_left_comm R))
            (simp (sum_prod R, prod_sum, sum_assoc, sum_left_comm R));
      }

  abbrev pub conjugate : K × K → K × K
  conjugate x = (x.0 ⊕ x.1 ⊗ u, opp x.1)

  -- a + bω times its conjugate is its norm
  pub conjugate_norm : (x : K × K) → (pairs o u v).prod x (conjugate x) ≡ (norm o u v x, nil)
  conjugate_norm x =
      pair (simp (norm, prod_sum, prod_opp R, opp_prod R, prod_assoc))
      (simp (prod_sum, prod_opp R, opp_prod R, prod_assoc, prod_comm, sum_assoc, sum_opp, sum_nil, opp_sum R))

  pub scaled : (x : K × K) (i : K) → (pairs o u v).prod x (i, nil) ≡ (x.0 ⊗ i, x.1 ⊗ i)
  scaled x i = pair (simp (prod_nil R, nil_prod R, sum_nil)) (simp (prod_nil R, nil_prod R, sum_nil, nil_sum R))

  -- so the conjugate times the norm's inverse is the inverse
  pub norm_inverse :
      (x : K × K) (i : K) → norm o u v x ⊗ i ≡ unit → (pairs o u v).prod x ((conjugate x).0 ⊗ i, (conjugate x).1 ⊗ i) ≡ (unit, nil)
  norm_inverse x i e =
      let m = (pairs o u v).prod in
      ap (m x) (sym (scaled (conjugate x) i)) ∙ sym (pairs_ring.prod_assoc x (conjugate x) (i, nil))
      ∙ ap (λ y. m y (i, nil)) (conjugate_norm x) ∙ scaled (norm o u v x, nil) i ∙ pair e (nil_prod R i)

  prods_across : (a b c d : K) → a ⊗ b ⊗ (c ⊗ d) ≡ (a ⊗ c) ⊗ (b ⊗ d)
  prods_across a b c d = prod_assoc a b (c ⊗ d) ∙ ap (λ w. a ⊗ w) (prod_left_comm R b c d) ∙ sym (prod_assoc a c (b ⊗ d))

  to_front : (x y z : K) → x ⊗ y ⊗ z ≡ y ⊗ (x ⊗ z)
  to_front x y z = prod_assoc x y z ∙ prod_left_comm R x y z

  -- Where each element but zero has an inverse and X² − uX − v has no root, only zero has norm zero.
  module _
      (has : (x : K) → (x ≡ nil → ⊥) → (y : K) × (x ⊗ y ≡ unit))
      (decide : (x : K) → (x ≡ nil) ⊎ (x ≡ nil → ⊥))
      (no_root : (x : K) → x ⊗ x ≡ u ⊗ x ⊕ v → ⊥) where
    square_nil : (a : K) → a ⊗ a ≡ nil → a ≡ nil
    square_nil a e =
        ⊎_elim (λ (z : a ≡ nil). z)
        (λ (ne : a ≡ nil → ⊥).
        let y = has a ne in
        sym (prod_unit a) ∙ ap (λ w. a ⊗ w) (sym y.1) ∙ sym (prod_assoc a a y.0) ∙ ap (λ w. w ⊗ y.0) e ∙ nil_prod R y.0)
        (decide a)

    -- with b·y = 1 a norm of zero makes −a·y a root
    root : (a b y : K) → norm o u v (a, b) ≡ nil → b ⊗ y ≡ unit → let s = opp (a ⊗ y) in s ⊗ s ≡ u ⊗ s ⊕ v
    root a b y e by =
        let s = a ⊗ y in
        let flat : a ⊗ a ⊕ a ⊗ b ⊗ u ≡ b ⊗ b ⊗ v = difference_nil R _ _ e in
        let left : (a ⊗ a ⊕ a ⊗ b ⊗ u) ⊗ (y ⊗ y) ≡ s ⊗ s ⊕ u ⊗ s =
        sum_prod R _ _ _
        ∙ ap₂ ◌⊕◌ (prods_across a a y y)
        (to_front (a ⊗ b) u (y ⊗ y) ∙ ap (λ w. u ⊗ w) (prods_across a b y y ∙ ap (λ w. s ⊗ w) by ∙ prod_unit s)) in
        let right : b ⊗ b ⊗ v ⊗ (y ⊗ y) ≡ v =
        to_front (b ⊗ b) v (y ⊗ y)
        ∙ ap (λ w. v ⊗ w) (prods_across b b y y ∙ ap₂ ◌⊗◌ by by ∙ prod_unit unit)
        ∙ prod_unit v in
        let v_is : v ≡ s ⊗ s ⊕ u ⊗ s = sym right ∙ ap (λ w. w ⊗ (y ⊗ y)) (sym flat) ∙ left in
        simp (opp_prod R, prod_opp R, opp_opp R) (sym (opp_cancel R (u ⊗ s) (s ⊗ s)) ∙ ap (λ w. opp (u ⊗ s) ⊕ w) (sum_comm (u ⊗ s) (s ⊗ s) ∙ sym v_is))

    pub norm_nil : (a b : K) → norm o u v (a, b) ≡ nil → (a ≡ nil) × (b ≡ nil)
    norm_nil a b e =
        ⊎_elim
        (λ (z : b ≡ nil). (square_nil a (sym (simp (norm, z, prod_nil R, nil_prod R, opp_nil R, sum_nil)) ∙ e), z))
        (λ (ne : b ≡ nil → ⊥). let y = has b ne in absurd (no_root _ (root a b y.0 e y.1)))
        (decide b)
