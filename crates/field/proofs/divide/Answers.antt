use Rattle.std.proofs.Common.{sym, rules}
use Rattle.field.proofs.Inverse.{inverse_none, quotient}
use Rattle.field.proofs.divide.Goals as goal

pub returns : goal.returns
returns g c =
    let L = g.met.F.Field.laws c.args.f.now in
    let i = sym c.inv.ensures.value in search (rules, quotient)

pub returns-in_err-inv : goal.returns-in_err-inv
returns-in_err-inv g c =
    let L = g.met.F.Field.laws c.args.f.now in
    let i = sym c.inv.ensures.value in search (rules, inverse_none)
