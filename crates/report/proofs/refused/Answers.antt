use Rattle.std.proofs.Common.{vec_items, ap, ◌∙◌}
use Rattle.report.specs.Printed.{refusal}
use Rattle.report.proofs.refused.Goals as goal

pub returns : goal.returns
returns c =
    ap vec_items c.into_bytes.ensures.value
    ∙ c.in_ok-page.ensures.ok
    ∙ ap (λ n. refusal n c.args.fault.line) c.number-number.ensures
