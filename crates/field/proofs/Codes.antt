-- Codes below the size as a carrier of their own, on which the laws have no premise. Assumes nothing.
use Rattle.std.proofs.Common.{◌≡◌, ℕ, suc, ◌<◌, ◌≤◌, ◌⊎◌, ap, inl, inr, ⊎_elim, arith}
use mathlib.Core.HLevel.{Σ_prop_path}
use native.Mathlib.Bridge.{le_prop}
use Rattle.std.proofs.lemmas.Bool.{cases_eq}
use Rattle.field.specs.Ops.{Ops, Ring}
use Rattle.field.specs.Algebra.{Algebra, RingLaws, Lawful}

abbrev pub Code : ℕ → Type 0
Code q = (x : ℕ) × (x < q)

pub code_path : {q : ℕ} (x y : Code q) → x.0 ≡ y.0 → x ≡ y
code_path {q} x y e = Σ_prop_path (λ (k : ℕ). le_prop {n = suc k} {m = q}) {u = x} {v = y} e

pub zero_below : {q : ℕ} → 2 ≤ q → 0 < q
zero_below h = omega arith

pub one_below : {q : ℕ} → 2 ≤ q → 1 < q
one_below h = omega arith

module _ (A : Algebra) (L : RingLaws A) (two : 2 ≤ A.size) where
  abbrev pub carrier : Ops (Code A.size)
  carrier =
      record {
        nil = (0, zero_below two);
        unit = (1, one_below two);
        sum = λ x y. (A.sum x.0 y.0, L.sum_below x.0 y.0 x.1 y.1);
        prod = λ x y. (A.prod x.0 y.0, L.prod_below x.0 y.0 x.1 y.1);
        opp = λ x. (A.opp x.0, L.opp_below x.0 x.1);
      }

  pub carrier_ring : Ring carrier
  carrier_ring =
      record {
        sum_assoc = λ x y z. code_path _ _ (L.sum_assoc x.0 y.0 z.0 x.1 y.1 z.1);
        sum_comm = λ x y. code_path _ _ (L.sum_comm x.0 y.0 x.1 y.1);
        sum_nil = λ x. code_path _ _ (L.sum_zero x.0 x.1);
        sum_opp = λ x. code_path _ _ (L.sum_opp x.0 x.1);
        prod_assoc = λ x y z. code_path _ _ (L.prod_assoc x.0 y.0 z.0 x.1 y.1 z.1);
        prod_comm = λ x y. code_path _ _ (L.prod_comm x.0 y.0 x.1 y.1);
        prod_unit = λ x. code_path _ _ (L.prod_one x.0 x.1);
        prod_sum = λ x y z. code_path _ _ (L.prod_sum x.0 y.0 z.0 x.1 y.1 z.1);
      }

-- The laws of a lawful field, on the carrier.
module _ (A : Algebra) (L : Lawful A) where
  abbrev pub elements : Ops (Code A.size)
  elements = carrier A L.ring L.least

  pub elements_ring : Ring elements
  elements_ring = carrier_ring A L.ring L.least

  pub elements_inverse : (x : Code A.size) → (x ≡ elements.nil → ⊥) → (y : Code A.size) × (elements.prod x y ≡ elements.unit)
  elements_inverse x ne =
      let h = L.inverse_prod x.0 x.1 (λ e. ne (code_path _ _ e)) in ((h.0, h.2), code_path _ _ h.3)

  pub elements_decide : (x : Code A.size) → (x ≡ elements.nil) ⊎ (x ≡ elements.nil → ⊥)
  elements_decide x =
      ⊎_elim (λ (e : x.0 ≡ 0). inl (code_path _ _ e)) (λ (ne : x.0 ≡ 0 → ⊥). inr (λ e. ne (ap (λ (c : Code A.size). c.0) e)))
      (cases_eq x.0 0)
