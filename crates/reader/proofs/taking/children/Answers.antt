use Rattle.std.proofs.Common.{[], ◌∷◌, ◌++◌, sym, ap, ◌∙◌}
use Rattle.std.proofs.lemmas.List.{append_assoc}
use Rattle.lines.specs.Recognized.{parted}
use Rattle.reader.proofs.taking.children.Goals as goal

pub loop-name-preserved : goal.loop-name-preserved
loop-name-preserved c =
    let i = c.loop-name.invariant in
    let n = c.in-Some.name.now in (
      i.0 ++ (n ∷ []),
      c.and_child-children.ensures i.0 i.1,
      i.2 ∙ ap (λ r. i.0 ++ r) c.in-Some.ensures.0 ∙ sym (append_assoc i.0 (n ∷ []) (parted c.in-Some.more.now)),
    )
