-- What reading and writing a record give.
use Rattle.std.specs.Prelude.{◌≡◌, ℕ, List, ◌≢◌}
use Rattle.format.specs.Reading.{Accepted, Faulty}
use Rattle.format.specs.Records as records
use Rattle.format.specs.Records.{ValidRecord, text_of}
use Rattle.reader.specs.declared.fault.Fault.{Fault}
use Rattle.refusals.specs.Numbers.{number}
use Rattle.drafts.specs.Drafts.{record_of}
use Rattle.text.specs.declared.record.Record.{Record}

abbrev pub declared : Record → records.Record
declared r = record_of r.draft

-- the text has this fault: its number and its line
abbrev pub HasFault : List ℕ → Fault → Type 0
HasFault text f = Faulty text (number f.refusal) f.line

-- A text accepted as a record is that record's text, and no other valid record has it.
pub record StandsFor (text : List ℕ) (r : records.Record) : Type 0 where
  pub accepted : Accepted text r
  pub text_is : text_of r ≡ text
  pub alone : (s : records.Record) → ValidRecord s → text_of s ≡ text → s ≡ r

-- A text that is refused has this fault, and is the text of no valid record.
pub record Refused (text : List ℕ) (f : Fault) : Type 0 where
  pub fault : HasFault text f
  pub no_record : (s : records.Record) → ValidRecord s → text_of s ≢ text
