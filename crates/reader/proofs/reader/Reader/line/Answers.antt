use Rattle.std.proofs.Common.{sym, refl, ◌∙◌, subst, inl, inr}
use Rattle.std.proofs.lemmas.Result.{MatchResult-weaker}
use Rattle.std.proofs.lemmas.Bool.{false≢true}
use Rattle.format.specs.Lines.{Line}
use Rattle.format.specs.Reading.{MayFollow}
use Rattle.format.proofs.Unique.{written_same}
use Rattle.lines.specs.Recognized.{line_of}
use Rattle.reader.specs.Reads.{meaning}
use Rattle.places.specs.Places.{place_of}
use Rattle.reader.proofs.reader.Reader.line.Goals as goal

pub returns-then-not-may_follow : goal.returns-then-not-may_follow
returns-then-not-may_follow c =
    let l = line_of c.in_ok-line.line in
    let p = rw c.in_ok-line.ensures.ok_part at c.parse.ensures in
    let d = meaning c.args.self.now in
    inl (
      refl,
      λ m formed may w.
          false≢true
          (c.if-not-may_follow.ensures.1
          (subst (λ (x : Line). MayFollow d (place_of c.args.self.now.place) x) (written_same m l formed p.0 (w ∙ sym p.1)) may)),
    )

pub returns : goal.returns
returns c =
    let p = rw c.in_ok-line.ensures.ok_part at c.parse.ensures in
    let may = c.if-not-may_follow.ensures.0 refl in
    MatchResult-weaker c.take.result c.take.ensures
    (λ _ x. (line_of c.in_ok-line.line, p.0, may, p.1, x.0, x.1))
    (λ _ x. inr (line_of c.in_ok-line.line, p.0, may, p.1, x))
