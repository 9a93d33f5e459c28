use Rattle.std.proofs.Common.{◌∙◌, ap₂}
use Rattle.polynomials.specs.Polynomials.{times}
use Rattle.polynomials.proofs.Product.{zero_times, times_zero}
use Rattle.polynomials.proofs.Laws.{three_sum}
use Rattle.gf256.proofs.ByteField.mul.Goals as goal

pub returns-in_default-clause-value : goal.returns-in_default-clause-value
returns-in_default-clause-value c = cc (c.in_default.ensures, zero_times c.args.b)

pub returns-in_default-logarithm-clause-value : goal.returns-in_default-logarithm-clause-value
returns-in_default-logarithm-clause-value c = cc (c.in_default-logarithm.ensures, times_zero c.args.a)

pub returns-clause-value : goal.returns-clause-value
returns-clause-value c =
    c.cyclic_power.ensures.value ∙ three_sum c.in-Some.i c.in-Some-logarithm.j
    ∙ ap₂ times c.in-Some.ensures.2 c.in-Some-logarithm.ensures.2
