-- What the fields of a line are, or are not.
use Rattle.std.specs.Prelude.{◌≡◌, ℕ, ◌<◌, true, List, [], ◌∷◌, length, decimal, ◌≢◌}
use Rattle.std.specs.List.{AllByRecursion}
use Rattle.words.specs.Words.{is_name, spaced}
use Rattle.shapes.specs.declared.shape.Kind.{Kind}
use Rattle.format.specs.Lines.{Block, Side, opens, letter, kind_fields, kind_fits, written, Fits}

-- the text opens no block
abbrev pub OpensNone : List ℕ → Type 0
OpensNone text = (b : Block) → written (opens b) ≢ text

-- the two fields name no kind of field
abbrev pub NamesNone : List ℕ → List ℕ → Type 0
NamesNone f g = (k : Kind) → kind_fits k → kind_fields k ≢ f ∷ g ∷ []

-- the field is no letter of a side
abbrev pub NoLetter : List ℕ → Type 0
NoLetter f = (d : Side) → letter d ≢ f

-- one name or more, parted by one space
abbrev pub Names : List ℕ → Type 0
Names text = (cs : List (List ℕ)) × (0 < length cs) × AllByRecursion (λ c. is_name c ≡ true) cs × (spaced cs ≡ text)

-- the end of a rule's line: a weight, then the children
abbrev pub Ends : List ℕ → ℕ → List (List ℕ) → Type 0
Ends rest w cs = Fits w × AllByRecursion (λ c. is_name c ≡ true) cs × (spaced (decimal w ∷ cs) ≡ rest)
