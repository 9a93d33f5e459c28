-- That an algebra keeps the laws of a field has one proof at most: the laws are bounds, equations of codes, and functions into
-- these, and an element has one inverse. Assumes nothing.
use Rattle.std.specs.Prelude.{◌≡◌, ℕ, ◌<◌, Some}
use Rattle.std.proofs.Common.{sym, ◌∙◌}
use Rattle.std.proofs.Props.{props}
use mathlib.Core.HLevel.{is_prop→PathP}
use Rattle.field.specs.Algebra.{Algebra, RingLaws, Lawful, inverse}

ring_laws_prop : (A : Algebra) → IsProp (RingLaws A)
ring_laws_prop A = hlevel props

one_inverse : (A : Algebra) (x : ℕ) → IsProp ((y : ℕ) × (inverse A x ≡ Some y) × (y < A.size) × (A.prod x y ≡ 1))
one_inverse A x u v =
    let some : Some u.0 ≡ Some v.0 = sym u.1 ∙ v.1 in
    let same : u.0 ≡ v.0 = cc in
    λ i. (
      same i,
      is_prop→PathP (λ k. inverse A x ≡ Some (same k)) (λ k. hlevel props) u.1 v.1 i,
      is_prop→PathP (λ k. same k < A.size) (λ k. hlevel props) u.2 v.2 i,
      is_prop→PathP (λ k. A.prod x (same k) ≡ 1) (λ k. hlevel props) u.3 v.3 i,
    )

pub lawful_prop : (A : Algebra) → IsProp (Lawful A)
lawful_prop A = hlevel (ring_laws_prop, one_inverse, props)
