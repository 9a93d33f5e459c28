-- An accepted text is that of its record, and the text of a valid record is accepted. Assumes nothing.
use Rattle.std.proofs.Common.{◌≡◌, length, sym, refl, ap, ◌∙◌, subst}
use Rattle.format.specs.Lines.{text_of_lines}
use Rattle.format.specs.Records.{ValidRecord, lines_of, text_of}
use Rattle.format.specs.Reading.{declared}
use Rattle.format.specs.Theorems.{AcceptedIsItsText, TextIsAccepted}
use Rattle.format.proofs.Lengths.{text_short}
use Rattle.format.proofs.Stages.{at_start, at_rules, draft_at, reached, finished}
use Rattle.format.proofs.Writing.{reads_record}

pub accepted_is_its_text : AcceptedIsItsText
accepted_is_its_text t r a =
    let (s, f, e, lines) = reached at_start tt a.lines a.draft a.reads in
    let done = finished s f (ap (λ d. d.place) e ∙ a.complete) in
    let same = ap declared e ∙ a.record_is in (
      subst ValidRecord same done.0,
      subst (λ x. text_of x ≡ t) same (ap text_of_lines (done.1 ∙ lines) ∙ sym a.written),
    )

pub text_is_accepted : TextIsAccepted
text_is_accepted r v =
    record {
      short = text_short r v _ (reads_record r v);
      lines = lines_of r;
      draft = draft_at (at_rules (length r.steps) r);
      written = refl;
      reads = reads_record r v;
      complete = refl;
      record_is = refl;
    }
