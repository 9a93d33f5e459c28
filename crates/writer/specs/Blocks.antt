-- The lines of each block of a record's text.
use Rattle.std.specs.Prelude.{List, [], ◌∷◌, ◌++◌, map, length}
use Rattle.format.specs.Lines as lines
use Rattle.format.specs.Records as records
use Rattle.line_writer.specs.Writing.{step_line}

-- the block of the field with that of its extensions
abbrev pub field_block : records.Record → List lines.Line
field_block r =
    (lines.opens lines.fields ∷ lines.names_field r.kind (length r.steps) ∷ [])
    ++ (lines.opens lines.steps ∷ map step_line r.steps)

abbrev pub symbol_block : records.Record → List lines.Line
symbol_block r = lines.opens lines.symbols ∷ map (λ s. lines.declares_symbol s.name s.rank) r.symbols

abbrev pub state_block : records.Record → List lines.Line
state_block r = lines.opens lines.states ∷ (records.state_lines r lines.A ++ records.state_lines r lines.B)

abbrev pub rule_block : records.Record → List lines.Line
rule_block r = lines.opens lines.rules ∷ (records.rule_lines r lines.A ++ records.rule_lines r lines.B)
