use Rattle.std.proofs.Common.{◌<◌, ◌≡◌, ◌∷◌, [], ◌++◌, length, refl, ap, ap₂, ◌∙◌, subst, rules}
use Rattle.table.proofs.Mapped.{adds_map}
use Rattle.tables.specs.Tables.{state_of}
use Rattle.format.specs.Records as records
use Rattle.format.specs.Records.{state_names}
use Rattle.format.specs.Reading.{Undeclared}
use Rattle.words.specs.Spelled.{spelled}
use Rattle.drafts.specs.Drafts.{part_of}
use Rattle.drafts.proofs.Parts.{part_is, replaced}
use Rattle.drafts.proofs.Draft.declare_state.Goals as goal

pub returns : goal.returns
returns c p =
    let d = c.args.self.now in
    let a = adds_map state_of 12 _ _ _ _ c.in_ok-push.ensures.adds in
    let old = ap part_of c.at_mut-part.ensures.value ∙ part_is d c.args.side p in
    let room = subst (λ (q : records.Part). length q.states < 12) old (a.room.0 refl) in
    let own = ap part_of c.part.ensures ∙ part_is d c.args.side p in
    let new : Undeclared (state_names (part_of c.part.result.now).states) c.args.name.now = search rules in
    let made : spelled c.unwrap-name.result ≡ c.args.name.now = search rules in (
      (subst (λ (q : records.Part). Undeclared (state_names q.states) c.args.name.now) own new, (search rules, (room, tt))),
      replaced d c.args.side p d.two _ _
          (ap₂ (λ s r. record { states = s; rules = r })
          (a.added ∙ ap₂ (λ ss s. ss ++ (s ∷ [])) (ap (λ (q : records.Part). q.states) old) (ap (λ n. record { name = n; final = c.args.weight }) made)) (ap (λ (q : records.Part). q.rules) old)),
    )
