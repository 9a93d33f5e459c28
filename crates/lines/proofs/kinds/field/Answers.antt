use Rattle.std.proofs.Common.{sym, ◌∙◌, arith}
use Rattle.words.proofs.Numbers.{same_from_decimal_32}
use Rattle.lines.proofs.Absence.{field_absent}
use Rattle.lines.proofs.kinds.field.Goals as goal

pub returns-in_err-kind : goal.returns-in_err-kind
returns-in_err-kind c =
    rw c.from_residual.ensures
    (field_absent _ _ _ c.requires.fields c.requires.letter c.requires.none (λ k _ fits e _ _. c.in_err-kind.ensures k fits e))

pub returns-in_err-steps : goal.returns-in_err-steps
returns-in_err-steps c =
    rw c.from_residual-in_err-steps.ensures
    (field_absent _ _ _ c.requires.fields c.requires.letter c.requires.none (λ _ n _ _ h _. c.in_err-steps.ensures n h))

pub returns-then-steps-gt-MOST_STEPS : goal.returns-then-steps-gt-MOST_STEPS
returns-then-steps-gt-MOST_STEPS c =
    let (small, e) = c.in_ok-steps.ensures in
    field_absent _ _ _ c.requires.fields c.requires.letter c.requires.none
    (λ _ n _ _ h few. omega (arith, same_from_decimal_32 c.in_ok-steps.steps n small h.0 (sym e ∙ h.1)))
