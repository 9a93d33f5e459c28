use Rattle.std.proofs.Common.{◌≡◌, [], ◌∷◌, Some, ap, ◌∙◌, ap₂}
use Rattle.field.specs.Algebra.{Algebra, inverse}
use Rattle.prime.specs.Residues.{residues}
use Rattle.extension.specs.Extension.{extension}
use Rattle.worked.specs.Table.{nine}
use Rattle.worked.proofs.Values.{arithmetic_holds}
use Rattle.worked.proofs.worked_arithmetic.Goals as goal

pub returns : goal.returns
returns c =
    let h = arithmetic_holds in
    let r = c.new-nine.result in
    let model : extension (residues r.base.modulus) r.u r.v ≡ nine =
    ap (λ p. extension (residues p.modulus) r.u r.v) c.new-nine.ensures.base
    ∙ ap₂ (λ u v. extension (residues c.new.result.modulus) u v) c.new-nine.ensures.coefficients.0 c.new-nine.ensures.coefficients.1
    ∙ ap (λ m. extension (residues m) 0 2) c.new.ensures.value in
    record {
      defined = h;
      computed =
          ap₂ ◌∷◌ (ap Some c.mul.ensures.value ∙ h.0)
          (ap₂ ◌∷◌ (c.inv.ensures.value ∙ h.1.0)
          (ap₂ ◌∷◌ (ap Some (c.mul-2.ensures.value ∙ ap (λ (A : Algebra). A.prod 3 3) model) ∙ h.1.1.0)
          (ap (λ x. x ∷ []) (c.inv-2.ensures.value ∙ ap (λ A. inverse A 4) model ∙ h.1.1.1.0))));
    }
