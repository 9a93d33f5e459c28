-- What the table of vectors holds.
use Rattle.std.specs.Prelude.{ℕ, List, map, take}
use Rattle.table.specs.Items.{items_of}
use Rattle.vectors.specs.declared.Vectors.{Vectors}

-- the rows, each cut to the width
abbrev pub vectors_of : Vectors → List (List ℕ)
vectors_of v = map (take v.width) (items_of v.rows)

abbrev pub width_of : Vectors → ℕ
width_of v = v.width
