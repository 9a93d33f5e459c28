-- The bytes of each line.
use Rattle.std.specs.Prelude.{ℕ, ◌-◌, List, [], ◌∷◌, ◌++◌, map, slice_index_or}
use Rattle.equivalence.specs.Automata as automata
use Rattle.format.specs.Lines as lines
use Rattle.format.specs.Records as records
use Rattle.rules.specs.Rules.{rule_model}
use Rattle.rules.specs.declared.Rule.{Rule}
use Rattle.tables.specs.Tables.{symbol_of, state_of}
use Rattle.tables.specs.declared.Symbol.{Symbol}
use Rattle.tables.specs.declared.State.{State}

-- a line with its line feed
abbrev pub ended : lines.Line → List ℕ
ended l = lines.written l ++ (10 ∷ [])

-- a field with the space before it
abbrev pub after_space : List ℕ → List ℕ
after_space f = 32 ∷ f

-- the name with a number, from 1
abbrev pub named : List (List ℕ) → ℕ → List ℕ
named names k = slice_index_or names (k - 1) []

-- the lines of an extension, of a symbol and of a state
abbrev pub step_line : ℕ × ℕ → lines.Line
step_line s = lines.extends_by s.0 s.1

abbrev pub symbol_line : Symbol → lines.Line
symbol_line s = lines.declares_symbol (symbol_of s).name s.rank

abbrev pub state_line : lines.Side → State → lines.Line
state_line d s = lines.declares_state d (state_of s).name s.weight

-- the line of a rule over the symbols and the states that it names by number
abbrev pub rule_by : lines.Side → List records.Symbol → List records.State → automata.Rule ℕ → lines.Line
rule_by d ss ts u =
    let name = named (records.state_names ts) in
    lines.gives_rule d (named (records.symbol_names ss) u.symbol) (name u.target) u.weight (map name u.children)

abbrev pub rule_line : lines.Side → List Symbol → List State → Rule → lines.Line
rule_line d ss ts u = rule_by d (map symbol_of ss) (map state_of ts) (rule_model u)
