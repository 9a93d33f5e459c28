use Rattle.std.proofs.Common.{sym}
use Rattle.std.proofs.lemmas.Bool.{both_ways}
use Rattle.lines.specs.Recognized.{side_of}
use Rattle.lines.proofs.Absence.{state_absent}
use Rattle.lines.proofs.kinds.state.Goals as goal

pub returns-then-not-is_name : goal.returns-then-not-is_name
returns-then-not-is_name c =
    state_absent (side_of c.args.side) _ _ c.requires (λ h _ _. both_ways _ (sym c.if-not-is_name.ensures) h)

pub returns-in_err-weight : goal.returns-in_err-weight
returns-in_err-weight c =
    rw c.from_residual.ensures
    (state_absent (side_of c.args.side) _ _ c.requires (λ _ w n. c.in_err-weight.ensures w n))
