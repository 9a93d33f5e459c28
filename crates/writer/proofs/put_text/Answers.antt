use Rattle.drafts.specs.Drafts.{record_of}
use Rattle.words.proofs.Puts.{◌then◌, bytes_are}
use Rattle.line_writer.proofs.Writes.{from_there}
use Rattle.writer.proofs.Texts.{text_is}
use Rattle.writer.proofs.put_text.Goals as goal

pub returns : goal.returns
returns c =
    bytes_are (text_is (record_of c.args.d.now))
    (c.put_field.ensures then c.put_symbols.ensures then c.put_both_states.ensures then from_there c.put_both_rules.ensures (cc) (cc) (cc))
