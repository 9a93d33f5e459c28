-- What makes the format exact: a text is accepted exactly when it is the text of a record, and of that one alone; and a text
-- that is not accepted has one fault, on one line.
use Rattle.std.specs.Prelude.{◌≡◌, ℕ, List}
use Rattle.format.specs.Records.{Record, ValidRecord, text_of}
use Rattle.format.specs.Reading.{Accepted, Faulty}

abbrev pub AcceptedIsItsText : Type 0
AcceptedIsItsText = (t : List ℕ) (r : Record) → Accepted t r → ValidRecord r × (text_of r ≡ t)

abbrev pub TextIsAccepted : Type 0
TextIsAccepted = (r : Record) → ValidRecord r → Accepted (text_of r) r

abbrev pub AcceptedAsOne : Type 0
AcceptedAsOne = (t : List ℕ) (r s : Record) → Accepted t r → Accepted t s → r ≡ s

abbrev pub NeverBoth : Type 0
NeverBoth = (t : List ℕ) (r : Record) (n k : ℕ) → Accepted t r → Faulty t n k → ⊥

abbrev pub OneFault : Type 0
OneFault = (t : List ℕ) (n k m j : ℕ) → Faulty t n k → Faulty t m j → (n ≡ m) × (k ≡ j)
