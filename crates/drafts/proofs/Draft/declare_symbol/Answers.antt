use Rattle.std.proofs.Common.{rules, refl}
use Rattle.table.proofs.Mapped.{adds_map}
use Rattle.tables.specs.Tables.{symbol_of}
use Rattle.drafts.proofs.Draft.declare_symbol.Goals as goal

pub returns : goal.returns
returns c =
    let a = adds_map symbol_of 12 _ _ _ _ c.in_ok-push.ensures.adds in
    let room = a.room.0 refl in
    let added = a.added in
    search rules
