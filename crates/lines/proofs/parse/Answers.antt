use Rattle.lines.proofs.Absence.{one_absent}
use Rattle.lines.proofs.parse.Goals as goal

pub returns-in_err-first : goal.returns-in_err-first
returns-in_err-first c = rw c.from_residual.ensures (one_absent c.args.bytes.now c.in_err-first.ensures)
