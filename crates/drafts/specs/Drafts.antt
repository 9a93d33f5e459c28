-- What a draft declares.
use Rattle.std.specs.Prelude.{◌≡◌, ℕ, List, map, take}
use Rattle.equivalence.specs.Automata as automata
use Rattle.format.specs.Records as records
use Rattle.format.specs.Reading as reading
use Rattle.shapes.specs.Shapes.{shape_kind, steps}
use Rattle.side.specs.declared.Side.{Side}
use Rattle.side.specs.Both.{at}
use Rattle.rules.specs.Rules as rules
use Rattle.tables.specs.Tables as tables
use Rattle.tables.specs.Tables.{symbols_of, children_of, numbered}
use Rattle.tables.specs.declared.children.Children.{Children}
use Rattle.drafts.specs.declared.Part.{Part}
use Rattle.drafts.specs.declared.Draft.{Draft}

-- the states of a side, and its rules
abbrev pub states_of : Part → List records.State
states_of p = tables.states_of p.states

abbrev pub rules_of : Part → List (automata.Rule ℕ)
rules_of p = rules.rules_of p.rules

abbrev pub part_of : Part → records.Part
part_of p = record { states = states_of p; rules = rules_of p }

abbrev pub side_part : Draft → Side → Part
side_part d x = at d.parts x

-- the coefficients of the extensions so far
abbrev pub extensions : Draft → List (ℕ × ℕ)
extensions d = steps d.field

-- the draft at a place of the text
abbrev pub draft_of : Draft → reading.Place → reading.Draft
draft_of d p =
    record {
      place = p;
      kind = shape_kind d.field;
      count = d.announced;
      steps = extensions d;
      symbols = symbols_of d.symbols;
      a = part_of d.parts.a;
      b = part_of d.parts.b;
    }

-- the record that it declares
abbrev pub record_of : Draft → records.Record
record_of d =
    record {
      kind = shape_kind d.field;
      steps = steps d.field;
      symbols = symbols_of d.symbols;
      a = part_of d.parts.a;
      b = part_of d.parts.b;
    }

-- The children kept are the first four of the numbers of these states of a side.
abbrev pub ChildrenAre : Draft → Side → List (List ℕ) → Children → Type 0
ChildrenAre d x cs c =
    children_of c ≡ take 4 (map (λ s. numbered (reading.number_of (records.state_names (states_of (side_part d x))) s)) cs)
