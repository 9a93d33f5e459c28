-- A draft that takes a line where it stands: the lines of values leave the place. Assumes nothing.
use Rattle.std.proofs.Common.{◌≡◌, ℕ, List, Result, refl, subst}
use Rattle.std.proofs.lemmas.Result.{MatchResult-weaker}
use Rattle.format.specs.Lines.{Line, declares_state, gives_rule}
use Rattle.format.specs.Reading.{Place, after}
use Rattle.lines.specs.Recognized.{side_of}
use Rattle.side.specs.declared.Side.{Side}
use Rattle.side.specs.declared.Side.TheVariants.{A, B}
use Rattle.drafts.specs.Drafts.{draft_of}
use Rattle.drafts.specs.Refusals.{Takes}
use Rattle.drafts.specs.declared.Draft.{Draft}
use Rattle.refusals.specs.declared.Refusal.{Refusal}
use Rattle.reader.specs.Reads.{Took}

module _ {U : Type 0} (before result : Draft) (p : Place) (r : Result U Refusal) where
  pub took :
      (l : Line) → (after (draft_of before p) l).place ≡ p → Takes before l r result → Took (draft_of before p) l r (draft_of result p)
  took l e t =
      MatchResult-weaker r (t p)
      (λ _ x. (x.0, subst (λ q. draft_of result q ≡ after (draft_of before p) l) e x.1))
      (λ _ x. x.0)

  pub took_state :
      (x : Side) (s : List ℕ) (w : ℕ)
      → Takes before (declares_state (side_of x) s w) r result
      → Took (draft_of before p) (declares_state (side_of x) s w) r (draft_of result p)
  took_state A s w = took (declares_state (side_of A) s w) refl
  took_state B s w = took (declares_state (side_of B) s w) refl

  pub took_rule :
      (x : Side) (s t : List ℕ) (w : ℕ) (cs : List (List ℕ))
      → Takes before (gives_rule (side_of x) s t w cs) r result
      → Took (draft_of before p) (gives_rule (side_of x) s t w cs) r (draft_of result p)
  took_rule A s t w cs = took (gives_rule (side_of A) s t w cs) refl
  took_rule B s t w cs = took (gives_rule (side_of B) s t w cs) refl
