use Rattle.std.proofs.Common.{map, sym, ap, ◌∙◌, subst}
use Rattle.std.proofs.lemmas.Simd.{map-map}
use Rattle.tables.specs.Names.{Finds}
use Rattle.tables.specs.Tables.{state_of}
use Rattle.drafts.proofs.Part.state_number.Goals as goal

pub returns : goal.returns
returns c =
    let x = c.args.name.now in
    subst (λ ns. Finds ns x c.number_of.result)
    (sym (map-map (λ s. s.name) state_of c.states.result.now) ∙ ap (map (λ s. s.name)) c.states.ensures.holds)
    c.number_of.ensures
