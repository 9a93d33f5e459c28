-- The places of a text.
use Rattle.std.specs.Prelude.{Bool, true, false}
use Rattle.format.specs.Reading as reading
use Rattle.lines.specs.Recognized.{block_of}
use Rattle.lines.specs.declared.line.Block.TheVariants.{Fields, Steps, Symbols, States, Rules}
use Rattle.places.specs.declared.place.Place.{Place}
use Rattle.places.specs.declared.place.Place.TheVariants.{Start, Inside, FieldNamed}

abbrev pub place_of : Place → reading.Place
place_of Start = reading.nowhere
place_of (Inside b) = reading.inside (block_of b)
place_of FieldNamed = reading.field_named

-- the field is not named yet
abbrev pub early : Place → Bool
early Start = true
early (Inside Fields) = true
early (Inside Steps) = false
early (Inside Symbols) = false
early (Inside States) = false
early (Inside Rules) = false
early FieldNamed = false
