use Rattle.text.proofs.Example.{example_record, example_text, example_valid}
use Rattle.text.proofs.Standing.{read_ok, stood}
use Rattle.text.proofs.record.Record.new.Goals as goal

pub unwrap-requires : goal.unwrap-requires
unwrap-requires c = read_ok _ c.from_text.result c.from_text.ensures example_record ∣ example_valid ∣₁ example_text

pub returns : goal.returns
returns c = (stood _ c.unwrap.ensures c.from_text.ensures).text_is
