-- The lines of a text, and how each is written.
use Rattle.std.specs.Prelude.{◌≡◌, ℕ, ◌^◌, ◌<◌, ◌≤◌, true, List, [], ◌∷◌, ◌++◌, codes, decimal}
use Rattle.std.specs.List.{flat_map, AllByRecursion}
use Rattle.words.specs.Words.{is_name, spaced}
use Rattle.shapes.specs.declared.shape.Kind.{Kind}
use Rattle.shapes.specs.declared.shape.Kind.TheVariants.{Residues, Bytes}

-- the five blocks of a text
pub data Block : Type 0 where
  fields steps symbols states rules : Block

pub data Side : Type 0 where
  A B : Side

-- A line is the line of names that opens a block, or a line of values of one of five kinds: the kind of field with the
-- number of its pair steps; u and v of a pair step; a symbol and its rank; a side, a state and its final weight; a side, a
-- symbol, a target, a weight and the child states. Names are lists of bytes.
pub data Line : Type 0 where
  opens : Block → Line
  names_field : Kind → ℕ → Line
  extends_by : ℕ → ℕ → Line
  declares_symbol : List ℕ → ℕ → Line
  declares_state : Side → List ℕ → ℕ → Line
  gives_rule : Side → List ℕ → List ℕ → ℕ → List (List ℕ) → Line

abbrev pub heading : Block → List (List ℕ)
heading fields = codes "kind" ∷ codes "p" ∷ codes "steps" ∷ []
heading steps = codes "u" ∷ codes "v" ∷ []
heading symbols = codes "symbol" ∷ codes "rank" ∷ []
heading states = codes "side" ∷ codes "state" ∷ codes "final" ∷ []
heading rules = codes "side" ∷ codes "symbol" ∷ codes "target" ∷ codes "weight" ∷ codes "children" ∷ []

abbrev pub kind_fields : Kind → List (List ℕ)
kind_fields (Residues p) = codes "prime" ∷ decimal p ∷ []
kind_fields Bytes = codes "byte" ∷ codes "-" ∷ []

abbrev pub letter : Side → List ℕ
letter A = codes "A"
letter B = codes "B"

-- the fields of a line
abbrev pub line_fields : Line → List (List ℕ)
line_fields (opens b) = heading b
line_fields (names_field k n) = kind_fields k ++ (decimal n ∷ [])
line_fields (extends_by u v) = decimal u ∷ decimal v ∷ []
line_fields (declares_symbol s k) = s ∷ decimal k ∷ []
line_fields (declares_state d s w) = letter d ∷ s ∷ decimal w ∷ []
line_fields (gives_rule d s t w cs) = letter d ∷ s ∷ t ∷ decimal w ∷ cs

-- fields are parted by one space
abbrev pub written : Line → List ℕ
written l = spaced (line_fields l)

-- every line ends with one line feed
abbrev pub text_of_lines : List Line → List ℕ
text_of_lines ls = flat_map (λ l. written l ++ (10 ∷ [])) ls

abbrev pub Fits : ℕ → Type 0
Fits n = n < 2 ^ 32

abbrev pub kind_fits : Kind → Type 0
kind_fits (Residues p) = Fits p
kind_fits Bytes = Unit {0}

-- The form of a line: numbers are at most 4,294,967,295, names are names, and there are at most 2 pair steps.
abbrev pub Formed : Line → Type 0
Formed (opens b) = Unit {0}
Formed (names_field k n) = kind_fits k × (n ≤ 2)
Formed (extends_by u v) = Fits u × Fits v
Formed (declares_symbol s k) = (is_name s ≡ true) × Fits k
Formed (declares_state d s w) = (is_name s ≡ true) × Fits w
Formed (gives_rule d s t w cs) = (is_name s ≡ true) × (is_name t ≡ true) × Fits w × AllByRecursion (λ c. is_name c ≡ true) cs
