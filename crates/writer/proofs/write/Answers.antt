use Rattle.writer.proofs.Texts.{has_room}
use Rattle.writer.proofs.write.Goals as goal

pub returns-then-needed-out : goal.returns-then-needed-out
returns-then-needed-out c =
    has_room c.put_record-needed.ensures.next c.if-needed-out.true c.put_record.ensures.next c.put_record.ensures.put
