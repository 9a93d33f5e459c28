-- The extension on codes: it keeps the laws of a field, and the norm gives its inverse. Assumes nothing.
use Rattle.std.proofs.Common.{◌≡◌, ℕ, ◌*◌, ◌<◌, ◌≤◌, true, not, eqb, is_some, Some, None, Option, sym, refl, ap, ◌∙◌, ap₂, arith}
use Rattle.std.proofs.lemmas.Nat.{mul-le}
use Rattle.std.proofs.lemmas.Bool.{both_ways, eq-eqb, ne_eqb, and_parts, and_from, leb-true, le-leb, ltb-true, lt-ltb, false≢true}
use Rattle.field.specs.Ops.{Ops}
use Rattle.field.specs.Algebra.{Algebra, RingLaws, Lawful, ops, first, inverse}
use Rattle.field.proofs.Codes.{Code, code_path, elements, elements_ring, elements_inverse, elements_decide}
use Rattle.field.proofs.Inverse.{inverse_is, inverse_of_zero, inverse_some, inverse_none, lawful, first_none, none_first}
use Rattle.field.proofs.Transfer.{Stands, stands_ring}
use Rattle.extension.specs.Extension.{pairs, norm, encode, decode, divided, extension, Root, Extends, extendable}
use Rattle.extension.proofs.Digits.{encode_below, square_fits, low_below, high_below, decode_encode, encode_decode}
use Rattle.extension.proofs.Pairs.{pairs_ring, conjugate, norm_inverse, norm_nil}

module _ (B : Algebra) (L : Lawful B) (u v : ℕ) (E : Extends B u v) where
  abbrev Base : Type 0
  Base = Code B.size

  abbrev û : Base
  û = (u, E.u_below)

  abbrev v̂ : Base
  v̂ = (v, E.v_below)

  abbrev abstract_pairs : Ops (Base × Base)
  abstract_pairs = pairs (elements B L) û v̂

  abbrev code : Base × Base → ℕ
  code x = encode B.size (x.0.0, x.1.0)

  decode_code : (x : Base × Base) → decode B.size (code x) ≡ (x.0.0, x.1.0)
  decode_code x = decode_encode B.size x.0.0 x.1.0 x.0.1

  positive : 1 ≤ B.size
  positive = let h = L.least in omega arith

  abbrev parts : (n : ℕ) → n < B.size * B.size → Base × Base
  parts n h =
      (((decode B.size n).0, low_below B.size n positive), ((decode B.size n).1, high_below B.size n positive h))

  stands : Stands (extension B u v) abstract_pairs code
  stands =
      let p = pairs (ops B) u v in
      let q = B.size in
      record {
        below = λ x. encode_below q x.0.0 x.1.0 x.0.1 x.1.1;
        onto = λ n h. (parts n h, encode_decode q n);
        nil = omega arith;
        unit = omega arith;
        sum = λ x y. ap₂ (λ a b. encode q (p.sum a b)) (decode_code x) (decode_code y);
        prod = λ x y. ap₂ (λ a b. encode q (p.prod a b)) (decode_code x) (decode_code y);
        opp = λ x. ap (λ a. encode q (p.opp a)) (decode_code x);
      }

  pub extension_ring : RingLaws (extension B u v)
  extension_ring = stands_ring stands (pairs_ring (elements_ring B L) û v̂)

  pub two_below : 2 ≤ B.size * B.size
  two_below = omega (arith, mul-le 2 2 B.size B.size L.least L.least)

  only_zero_has_norm_zero : (n : ℕ) → n < B.size * B.size → norm (ops B) u v (decode B.size n) ≡ 0 → n ≡ 0
  only_zero_has_norm_zero n h e =
      let x = parts n h in
      let z =
      norm_nil (elements_ring B L) û v̂ (elements_inverse B L) (elements_decide B L)
      (λ y r. E.no_root y.0 y.1 (ap (λ (c : Base). c.0) r)) x.0 x.1 (code_path _ _ e) in
      sym (encode_decode B.size n) ∙ ap₂ (λ (a b : Base). encode B.size (a.0, b.0)) z.0 z.1 ∙ omega arith

  -- the conjugate of n times i
  abbrev conjugate_by : (n : ℕ) → n < B.size * B.size → Base → Base × Base
  conjugate_by n h i =
      let c = conjugate (elements_ring B L) û v̂ (parts n h) in ((elements B L).prod c.0 i, (elements B L).prod c.1 i)

  prod_by_norm :
      (n : ℕ) (h : n < B.size * B.size) (i : Base)
      → B.prod (norm (ops B) u v (decode B.size n)) i.0 ≡ 1
      → (extension B u v).prod n (code (conjugate_by n h i)) ≡ 1
  prod_by_norm n h i e =
      let x = parts n h in
      ap (λ m. (extension B u v).prod m (code (conjugate_by n h i))) (sym (encode_decode B.size n))
      ∙ stands.prod x (conjugate_by n h i)
      ∙ ap code (norm_inverse (elements_ring B L) û v̂ x i (code_path _ _ e))
      ∙ stands.unit

  norm_below : (n : ℕ) → n < B.size * B.size → norm (ops B) u v (decode B.size n) < B.size
  norm_below n h = (norm (elements B L) û v̂ (parts n h)).1

  -- the inverse, from the norm's
  pub inverse_divided :
      (n : ℕ)
      → n < B.size * B.size
      → (i : Option ℕ)
      → inverse B (norm (ops B) u v (decode B.size n)) ≡ i
      → inverse (extension B u v) n ≡ divided B u (decode B.size n) i
  inverse_divided n h (Some i) e =
      let s = inverse_some B L _ i (norm_below n h) e in
      let y = conjugate_by n h (i, s.1) in
      inverse_is (extension B u v) extension_ring two_below n (code y) h (stands.below y) (prod_by_norm n h (i, s.1) s.2)
  inverse_divided n h None e =
      let z = only_zero_has_norm_zero n h (inverse_none B L _ (norm_below n h) e) in
      ap (inverse (extension B u v)) z ∙ inverse_of_zero (extension B u v) extension_ring two_below

  pub extension_lawful : Lawful (extension B u v)
  extension_lawful =
      lawful (extension B u v) extension_ring two_below (square_fits B.size E.small)
      (λ n h ne.
      let i = L.inverse_prod _ (norm_below n h) (λ z. ne (only_zero_has_norm_zero n h z)) in
      let y = conjugate_by n h (i.0, i.2) in
      (code y, stands.below y, prod_by_norm n h (i.0, i.2) i.3))

-- No root, by a test of every element that antt computes.
pub rootless :
    (B : Algebra) (u v : ℕ)
    → first (λ x. eqb (B.prod x x) (B.sum (B.prod u x) v)) B.size ≡ None
    → (x : ℕ)
    → x < B.size
    → Root B u v x
    → ⊥
rootless B u v e x h r = both_ways _ (none_first _ B.size e x h) (eq-eqb _ _ r)

none_from_test : (o : Option ℕ) → not (is_some o) ≡ true → o ≡ None
none_from_test None t = refl
none_from_test (Some x) t = absurd (false≢true t)

-- The test and what it tests.
pub extends_from_test : (B : Algebra) (u v : ℕ) → extendable B u v ≡ true → Extends B u v
unfolding extendable
extends_from_test B u v t =
    let a = and_parts _ _ t in
    let b = and_parts _ _ a.1 in
    let c = and_parts _ _ b.1 in
    record {
      small = leb-true _ _ a.0;
      u_below = ltb-true _ _ b.0;
      v_below = ltb-true _ _ c.0;
      no_root = rootless B u v (none_from_test _ c.1);
    }

pub test_from_extends : (B : Algebra) (u v : ℕ) → Extends B u v → extendable B u v ≡ true
unfolding extendable
test_from_extends B u v e =
    let none = first_none (λ x. eqb (B.prod x x) (B.sum (B.prod u x) v)) B.size (λ k h. ne_eqb _ _ (e.no_root k h)) in
    and_from _ _ (le-leb _ _ e.small)
    (and_from _ _ (lt-ltb _ _ e.u_below) (and_from _ _ (lt-ltb _ _ e.v_below) (ap (λ o. not (is_some o)) none)))
