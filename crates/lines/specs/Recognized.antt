-- What a line says, as a line of the format, and when a text is recognized as one.
use Rattle.std.specs.Prelude.{◌≡◌, ℕ, cond, List, [], ◌∷◌, Option, MatchOption, ◌==◌, ◌≢◌}
use Rattle.format.specs.Lines.{A, B, fields, steps, symbols, states, rules, opens, names_field, extends_by, declares_symbol, declares_state, gives_rule, written, Formed}
use Rattle.format.specs.Lines.{Block as Opened, Side as Sided, Line as Meant}
use Rattle.lines.specs.declared.line.Block.{Block}
use Rattle.lines.specs.declared.line.Block.TheVariants.{Fields, Steps, Symbols, States, Rules}
use Rattle.side.specs.declared.Side.{Side}
use Rattle.side.specs.declared.Side.TheVariants as side
use Rattle.lines.specs.declared.line.Line.{Line}
use Rattle.lines.specs.declared.line.Line.TheVariants.{Heading, Field, Step, Symbol, State, Rule}

-- a byte in front of the first part
abbrev pub onto : ℕ → List (List ℕ) → List (List ℕ)
onto x [] = (x ∷ []) ∷ []
onto x (p ∷ ps) = (x ∷ p) ∷ ps

-- The parts of a text, each up to the next space or to the end. The empty text has none.
abbrev pub parted : List ℕ → List (List ℕ)
parted [] = []
parted (x ∷ xs) = cond (x == 32) ([] ∷ parted xs) (onto x (parted xs))

abbrev pub block_of : Block → Opened
block_of Fields = fields
block_of Steps = steps
block_of Symbols = symbols
block_of States = states
block_of Rules = rules

abbrev pub side_of : Side → Sided
side_of side.A = A
side_of side.B = B

abbrev pub line_of : Line → Meant
line_of (Heading b) = opens (block_of b)
line_of (Field k n) = names_field k n
line_of (Step u v) = extends_by u v
line_of (Symbol s k) = declares_symbol s.now k
line_of (State d s w) = declares_state (side_of d) s.now w
line_of (Rule d s t w cs) = gives_rule (side_of d) s.now t.now w (parted cs.now)

-- no line in its form is written so
abbrev pub Absent : List ℕ → Type 0
Absent text = (m : Meant) → Formed m → written m ≢ text

abbrev pub Recognized : List ℕ → Option Line → Type 0
Recognized text r = MatchOption r (Absent text) (λ l. Formed (line_of l) × (written (line_of l) ≡ text))
