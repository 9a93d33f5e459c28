-- What a reader has read.
use Rattle.std.specs.Prelude.{◌≡◌, ℕ, List, Result, MatchResult}
use Rattle.format.specs.Lines.{Line, Formed, written}
use Rattle.format.specs.Reading as reading
use Rattle.format.specs.Reading.{AllPass, FirstFailing, LineFault, MayFollow, after, checks}
use Rattle.refusals.specs.Numbers.{number}
use Rattle.refusals.specs.declared.Refusal.{Refusal}
use Rattle.drafts.specs.Drafts.{draft_of}
use Rattle.reader.specs.declared.reader.Reader.{Reader}
use Rattle.places.specs.Places.{place_of}

abbrev pub meaning : Reader → reading.Draft
meaning r = draft_of r.draft (place_of r.place)

-- A line that may follow is taken where it passes its checks; else the first that fails gives the refusal.
abbrev pub Took : {U : Type 0} → reading.Draft → Line → Result U Refusal → reading.Draft → Type 0
Took d l r e =
    MatchResult r (λ _. AllPass (checks d l) × (e ≡ after d l)) (λ x. FirstFailing (checks d l) (number x))

-- The bytes of a line are taken as a line that may follow and passes its checks, or have a fault.
abbrev pub TookBytes : {U : Type 0} → reading.Draft → List ℕ → Result U Refusal → reading.Draft → Type 0
TookBytes d bytes r e =
    MatchResult r
    (λ _. (l : Line) × Formed l × MayFollow d d.place l × (written l ≡ bytes) × AllPass (checks d l) × (e ≡ after d l))
    (λ x. LineFault d bytes (number x))
