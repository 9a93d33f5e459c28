use Rattle.std.proofs.Common.{sym}
use mathlib.Core.Logic.{∥∥₁_elim}
use Rattle.text.specs.Exchange.{declared}
use Rattle.text.proofs.Sets.{record_set}
use Rattle.text.proofs.Standing.{read_ok, stood}
use Rattle.text.proofs.record.Record.reread.Goals as goal

pub unwrap-requires : goal.unwrap-requires
unwrap-requires c =
    read_ok _ c.from_text.result c.from_text.ensures (declared c.args.self.now) c.args.self.now.valid (sym c.in_ok-n.ensures.front)

pub returns : goal.returns
returns c =
    ∥∥₁_elim c.args.self.now.valid (record_set _ _)
    (λ v. sym ((stood _ c.unwrap.ensures c.from_text.ensures).alone (declared c.args.self.now) v (sym c.in_ok-n.ensures.front)))
