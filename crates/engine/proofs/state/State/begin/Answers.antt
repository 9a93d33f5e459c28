use Rattle.std.proofs.Common.{rules, arith, subst}
use Rattle.session.proofs.Validity.{as_valid, begun_valid}
use Rattle.session.specs.Sessions.{begun}
use Rattle.session.specs.Validity.{Valid}
use Rattle.engine.proofs.state.State.begin.Goals as goal

pub invariant_of-result : goal.invariant_of-result
invariant_of-result g c =
    let A = g.F.Field.model c.new.result.field in
    let begins = begun_valid A c.args.a c.args.b (omega (arith, (g.met.F.Field.laws c.new.result.field).least)) in
    record { valid = subst (Valid A) (search rules) (as_valid A c.args.a c.args.b (begun c.args.a c.args.b) begins) }
