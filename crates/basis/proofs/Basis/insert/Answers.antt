use Rattle.std.proofs.Common.{◌≡◌, length, map, refl, ap, ◌∙◌, arith}
use Rattle.std.proofs.lemmas.List.{map_push, take_at}
use Rattle.elimination.specs.Rows.{row_of}
use Rattle.table.specs.Items.{items_of}
use Rattle.basis.proofs.Bases.{insertable_clears, left_out, taken_in, row_fits}
use Rattle.basis.proofs.Basis.insert.Goals as goal

pub reduce-requires-clause-rows : goal.reduce-requires-clause-rows
reduce-requires-clause-rows g c =
    insertable_clears (g.F.Field.model c.args.f.now) c.args.self.now c.items.result.now c.args.vector.now
    c.copy_from_slice.new.self c.items.ensures.are c.copy_from_slice.ensures.after c.requires.fits

pub returns-in_default : goal.returns-in_default
returns-in_default g c =
    left_out (g.F.Field.model c.args.f.now) (g.met.F.Field.laws c.args.f.now) c.args.self.now c.items.result.now
    c.args.vector.now c.copy_from_slice.new.self c.reduce.new.v c.items.ensures.are c.copy_from_slice.ensures.after
    c.reduce.ensures.value c.in_default.ensures.0

pub unwrap-requires : goal.unwrap-requires
unwrap-requires g c =
    c.push.ensures.adds.room.1
    (row_fits (g.F.Field.model c.args.f.now) (g.met.F.Field.laws c.args.f.now) c.args.self.now c.items.result.now
    c.args.vector.now c.copy_from_slice.new.self c.reduce.new.v c.items.ensures.are c.copy_from_slice.ensures.after
    c.reduce.ensures.value c.in-Some.pivot c.normalize.new.v c.in-Some.ensures c.requires.fits)

pub returns : goal.returns
returns g c =
    let b = c.args.self.now in
    let copied = ap length c.copy_from_slice.ensures.after in
    let long : length c.normalize.new.v ≡ b.width = omega (arith, copied, c.requires.fits.3.0, c.requires.fits.2.width) in
    let added = rw c.unwrap.ensures at c.push.ensures.adds.added in
    taken_in (g.F.Field.model c.args.f.now) (g.met.F.Field.laws c.args.f.now) b c.items.result.now c.args.vector.now
    c.copy_from_slice.new.self c.reduce.new.v c.items.ensures.are c.copy_from_slice.ensures.after c.reduce.ensures.value
    c.in-Some.pivot c.normalize.new.v c.in-Some.ensures _ _ refl
    (ap (map (row_of b.width)) added ∙ map_push (row_of b.width) (items_of b.rows) _)
    (take_at c.normalize.new.v _ b.width long)
