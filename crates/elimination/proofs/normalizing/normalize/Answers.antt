use Rattle.std.proofs.ByRecursion.{All-get_or}
use Rattle.elimination.proofs.Steps.{inverse_given, inverse_read}
use Rattle.elimination.proofs.normalizing.normalize.Goals as goal

pub unwrap-inverse-requires : goal.unwrap-inverse-requires
unwrap-inverse-requires g c =
    let h = c.in_ok-pivot.ensures in
    inverse_given (g.F.Field.model c.args.f.now) (g.met.F.Field.laws c.args.f.now) _ c.inv.result
    (All-get_or _ c.args.v.now _ 0 h.0 c.requires.codes) h.2 c.inv.ensures.value

pub returns : goal.returns
returns g c =
    let h = c.in_ok-pivot.ensures in
    let i = inverse_read (g.F.Field.model c.args.f.now) (g.met.F.Field.laws c.args.f.now) _ c.inv.result
    (All-get_or _ c.args.v.now _ 0 h.0 c.requires.codes) h.2 c.inv.ensures.value c.unwrap-inverse.result
    c.unwrap-inverse.ensures in
    (h, (c.unwrap-inverse.result, i.0, i.1, c.scale.ensures))
