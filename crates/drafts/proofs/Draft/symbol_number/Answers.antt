use Rattle.std.proofs.Common.{map, sym, ap, ◌∙◌, subst}
use Rattle.std.proofs.lemmas.Simd.{map-map}
use Rattle.tables.specs.Names.{Finds}
use Rattle.tables.specs.Tables.{symbol_of}
use Rattle.drafts.proofs.Draft.symbol_number.Goals as goal

pub returns : goal.returns
returns c =
    let x = c.args.name.now in
    subst (λ ns. Finds ns x c.number_of.result)
    (sym (map-map (λ s. s.name) symbol_of c.symbols.result.now) ∙ ap (λ ss. map (λ s. s.name) (map symbol_of ss)) c.symbols.ensures.are)
    c.number_of.ensures
