use Rattle.std.proofs.Common.{◌∙◌, rules, sym, arith}
use Rattle.writer.proofs.Lengths.{text_short}
use Rattle.writer.proofs.put_record.Goals as goal

pub returns : goal.returns
returns c =
    let same = sym (c.put_text.ensures.same_buffer ∙ c.new-pen.ensures.same_buffer) in
    let short = text_short c.args.d.now in
    let place = c.put_text.ensures.place in
    let put = c.put_text.ensures.put in
    record {
      next = omega (arith, short, place, c.place.ensures, c.new-pen.ensures.start);
      put = ◌∙◌ {b = c.put_text.new.pen.out.now} (search (rules, same)) (rw (c.new-pen.ensures.holds, c.new-pen.ensures.start) at put);
    }
