use Rattle.std.proofs.Common.{◌-◌, map, length, get_or, sym, ap, ◌∙◌, arith}
use lib.ListN.{length-map}
use Rattle.std.proofs.lemmas.List.{get_or-map}
use Rattle.std.proofs.lemmas.Simd.{map-map}
use Rattle.tables.specs.Tables.{symbol_of}
use Rattle.drafts.proofs.Draft.rank.Goals as goal

pub returns-clause-is : goal.returns-clause-is
returns-clause-is c =
    let xs = c.symbols.result.now in
    let i = c.args.number - 1 in
    let d = c.index-symbols-number.result in
    sym
    (ap (λ ss. get_or (map (λ s. s.rank) (map symbol_of ss)) i 0) (sym c.symbols.ensures.are)
    ∙ ap (λ ks. get_or ks i 0) (map-map (λ s. s.rank) symbol_of xs)
    ∙ get_or-map (λ s. s.rank) xs i d 0 (omega (arith, length-map xs symbol_of, ap (λ ss. length (map symbol_of ss)) c.symbols.ensures.are)))
