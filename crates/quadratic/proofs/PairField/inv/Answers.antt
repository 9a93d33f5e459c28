use Rattle.std.proofs.Common.{Some, None, sym, ap, ◌∙◌}
use Rattle.field.specs.Algebra.{inverse, ops}
use Rattle.extension.specs.Extension.{conjugate_product, norm, decode}
use Rattle.extension.proofs.Laws.{inverse_divided}
use Rattle.quadratic.specs.Known.{extends}
use Rattle.quadratic.proofs.PairField.inv.Goals as goal

pub returns-clause-value : goal.returns-clause-value
returns-clause-value g c =
    let p = c.args.self.now in
    let B = g.F.Field.model p.base in
    let parts = c.split-a.ensures.value ∙ ap (λ q. decode q c.args.x) c.size.ensures in
    let of = c.norm.ensures.value ∙ ap (norm (ops B) p.u p.v) parts in
    let i =
    inverse_divided B (g.met.F.Field.laws p.base) p.u p.v (extends p) c.args.x c.requires (Some c.in_ok-i.i) (ap (inverse B) (sym of) ∙ sym c.in_ok-i.ensures.value) in
    ap Some (c.conjugate_times.ensures.value ∙ ap (λ y. conjugate_product B p.u y c.in_ok-i.i) parts) ∙ sym i

pub returns-in_err-i-clause-value : goal.returns-in_err-i-clause-value
returns-in_err-i-clause-value g c =
    let p = c.args.self.now in
    let B = g.F.Field.model p.base in
    let parts = c.split-a.ensures.value ∙ ap (λ q. decode q c.args.x) c.size.ensures in
    let of = c.norm.ensures.value ∙ ap (norm (ops B) p.u p.v) parts in
    let i =
    inverse_divided B (g.met.F.Field.laws p.base) p.u p.v (extends p) c.args.x c.requires None (ap (inverse B) (sym of) ∙ sym (c.in_err-i.ensures).value) in
    c.from_residual.ensures ∙ sym i
