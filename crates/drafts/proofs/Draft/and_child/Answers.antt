use Rattle.std.proofs.Common.{ℕ, List, [], ◌∷◌, ap, ◌∙◌}
use Rattle.format.specs.Reading.{number_of}
use Rattle.format.specs.Records.{state_names}
use Rattle.std.proofs.lemmas.List.{map_push}
use Rattle.tables.specs.Tables.{numbered}
use Rattle.tables.proofs.Names.{numbered_is, take_again}
use Rattle.drafts.specs.Drafts.{states_of}
use Rattle.drafts.proofs.Draft.and_child.Goals as goal

pub returns : goal.returns
returns c cs k =
    let number : List (List ℕ) → ℕ = λ ns. number_of ns c.args.name.now in
    let n = numbered_is c.state_number.result (number (state_names (states_of c.part.result.now))) c.state_number.ensures
    ∙ ap (λ q. numbered (number (state_names (states_of q)))) c.part.ensures in
    rw (map_push, ← n, ← take_again 4 _ (c.state_number.result ∷ []), ← k) c.and.ensures
