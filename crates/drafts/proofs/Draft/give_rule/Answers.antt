use Rattle.std.proofs.Common.{◌<◌, ◌∷◌, [], ◌++◌, length, refl, ap, ap₂, ◌∙◌, subst}
use Rattle.table.proofs.Mapped.{adds_map}
use Rattle.rules.specs.Rules.{rule_model}
use Rattle.format.specs.Records as records
use Rattle.drafts.specs.Drafts.{part_of}
use Rattle.drafts.proofs.Parts.{part_is, replaced}
use Rattle.drafts.proofs.Draft.give_rule.Goals as goal

pub returns : goal.returns
returns c cs k p =
    let d = c.args.self.now in
    let a = adds_map rule_model 256 _ _ _ _ c.in_ok-push.ensures.adds in
    let made = c.in_ok-rule.ensures cs k p in
    let old = ap part_of c.at_mut.ensures.value ∙ part_is d c.args.side p in
    let room = subst (λ (q : records.Part). length q.rules < 256) old (a.room.0 refl) in
    let h = made.0 in (
      (h.0, (h.1.0, (h.1.1.0, (h.1.1.1.0, (h.1.1.1.1.0, (room, tt)))))),
      replaced d c.args.side p d.two _ _
          (ap₂ (λ s r. record { states = s; rules = r }) (ap (λ (q : records.Part). q.states) old)
          (a.added ∙ ap₂ (λ rs r. rs ++ (r ∷ [])) (ap (λ (q : records.Part). q.rules) old) made.1)),
    )
