-- The vectors are as wide as the table says.
use Rattle.std.proofs.Common.{◌≡◌, length, take, arith}
use Rattle.std.specs.List.{AllByRecursion}
use Rattle.std.proofs.ByRecursion.{All-map, All-weaker}
use Rattle.std.proofs.lemmas.List.{length-take-le}
use Rattle.table.specs.Items.{items_of}
use Rattle.vectors.specs.Tables.{vectors_of, width_of}
use Rattle.vectors.specs.declared.Vectors.{Vectors}

-- every vector of the table has as many elements as the table says
pub vectors_wide : (v : Vectors) → AllByRecursion (λ r. length r ≡ width_of v) (vectors_of v)
vectors_wide v =
    let narrow = v.narrow in
    All-map (λ r. length r ≡ v.width) (take v.width) (items_of v.rows)
    (All-weaker (λ r. length r ≡ 12) (λ r. length (take v.width r) ≡ v.width) (λ r whole. length-take-le v.width r (omega arith)) (items_of v.rows) v.whole)
