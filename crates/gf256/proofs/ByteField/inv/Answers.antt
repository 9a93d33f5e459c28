use Rattle.std.proofs.Common.{sym, ap, ◌∙◌, lit≤}
use Rattle.field.proofs.Inverse.{inverse_is}
use Rattle.polynomials.specs.Polynomials.{times, gf256}
use Rattle.polynomials.proofs.Laws.{ring, field, power_inverse}
use Rattle.gf256.proofs.ByteField.inv.Goals as goal

pub returns-in_err-i-clause-value : goal.returns-in_err-i-clause-value
returns-in_err-i-clause-value c = cc (c.from_residual.ensures, c.in_err-i.ensures, field.inverse_zero)

pub returns-clause-value : goal.returns-clause-value
returns-clause-value c =
    let is = c.in_ok-i.ensures in
    let r = c.cyclic_power.ensures in
    sym
    (inverse_is gf256 ring (lit≤ tt) c.args.a c.cyclic_power.result c.requires r.below
    (ap (times c.args.a) r.value ∙ power_inverse c.args.a c.in_ok-i.i is.2 is.1))
