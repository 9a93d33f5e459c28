use Rattle.std.proofs.Common.{sym}
use Rattle.std.proofs.lemmas.Bool.{both_ways}
use Rattle.lines.specs.Recognized.{side_of}
use Rattle.lines.proofs.Absence.{rule_absent}
use Rattle.lines.proofs.kinds.rule.Goals as goal
use Rattle.lines.proofs.kinds.rule.Goals.{then-not-is_name-via-then-not-is_name, then-not-is_name-via-else-not-is_name+then-not-is_name-2}

pub returns-then-not-is_name : goal.returns-then-not-is_name
returns-then-not-is_name c =
    rule_absent (side_of c.args.side) _ _ c.requires _
    (λ h k _ _ _. elim c.then-not-is_name.branch [
      | then-not-is_name-via-then-not-is_name w ↦ both_ways _ (sym w.if-not-is_name.ensures) h
      | then-not-is_name-via-else-not-is_name+then-not-is_name-2 w ↦ both_ways _ (sym w.if-not-is_name-2.ensures) k
    ])

pub returns-in_err-weight : goal.returns-in_err-weight
returns-in_err-weight c =
    rw c.from_residual.ensures
    (rule_absent (side_of c.args.side) _ _ c.requires _ (λ _ _ w cs h. c.in_err-weight.ensures w cs h))
