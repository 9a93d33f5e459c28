-- What is printed for a text.
use Rattle.std.specs.Prelude.{◌≡◌, ℕ, ◌⊎◌, List, [], ◌∷◌, ◌++◌, codes, decimal}
use Rattle.format.specs.Reading.{Accepted, Faulty}
use Rattle.format.specs.Records.{Record, text_of}

-- a refusal: a line of names, then the number and the line
abbrev pub refusal : ℕ → ℕ → List ℕ
refusal number line = codes "refused line" ++ (10 ∷ (decimal number ++ (32 ∷ (decimal line ++ (10 ∷ [])))))

-- For an accepted text its record's text, and for any other its fault.
abbrev pub Printed : List ℕ → List ℕ → Type 0
Printed text out =
    ((r : Record) × Accepted text r × (out ≡ text_of r))
    ⊎ ((number : ℕ) × (line : ℕ) × Faulty text number line × (out ≡ refusal number line))
