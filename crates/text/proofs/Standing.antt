-- Accepted and refused texts, and the records that they are or are not the texts of. Assumes nothing.
use Rattle.std.proofs.Common.{◌≡◌, ℕ, List, Result, Ok, Err, MatchResult, subst, rules}
use Rattle.std.specs.Result.{IsOk}
use mathlib.Core.HLevel.{⊥_prop}
use mathlib.Core.Logic.{∥∥₁_elim}
use Rattle.format.specs.Reading.{Accepted}
use Rattle.format.specs.Records.{Record, ValidRecord, text_of}
use Rattle.format.proofs.Texts.{accepted_is_its_text, text_is_accepted}
use Rattle.format.proofs.Unique.{accepted_as_one, never_both}
use Rattle.reader.specs.declared.fault.Fault.{Fault}
use Rattle.text.specs.declared.record.Record as read
use Rattle.text.specs.Exchange.{HasFault, Refused, StandsFor, declared}

reads_back : (t : List ℕ) (s : Record) → ValidRecord s → text_of s ≡ t → Accepted t s
reads_back t s v e = subst (λ (x : List ℕ). Accepted x s) e (text_is_accepted s v)

pub stands_for : (t : List ℕ) (r : Record) → Accepted t r → StandsFor t r
stands_for t r a =
    record {
      accepted = a;
      text_is = (accepted_is_its_text t r a).1;
      alone = λ s v e. accepted_as_one t s r (reads_back t s v e) a;
    }

pub valid : (t : List ℕ) (r : Record) → Accepted t r → ValidRecord r
valid t r a = (accepted_is_its_text t r a).0

pub refused : (t : List ℕ) (f : Fault) → HasFault t f → Refused t f
refused t f h = record { fault = h; no_record = λ s v e. never_both t s _ _ (reads_back t s v e) h }

-- what reading a text gives, where it is the text of a valid record
pub read_ok : (t : List ℕ) (r : Result read.Record Fault) → MatchResult r (λ s. StandsFor t (declared s)) (Refused t) → (s : Record) → ∥ ValidRecord s ∥₁ → text_of s ≡ t → IsOk r
read_ok t (Ok x) h s v e = search rules
read_ok t (Err f) h s v e = absurd (∥∥₁_elim v ⊥_prop (λ w. h.no_record s w e))

pub stood : (t : List ℕ) {r : Result read.Record Fault} {x : read.Record} → r ≡ Ok x → MatchResult r (λ s. StandsFor t (declared s)) (Refused t) → StandsFor t (declared x)
stood t e h = rw e at h
