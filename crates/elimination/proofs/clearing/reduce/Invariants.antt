use Rattle.std.proofs.Common.{◌≡◌, map, length, take}
use Rattle.field.specs.Codes.{AllBelow}
use Rattle.elimination.specs.Rows.{row_of}
use Rattle.elimination.specs.Vectors.{reduced_by}
use Rattle.elimination.proofs.clearing.reduce.Given as goal

abbrev pub invariant-loop-row : goal.invariant-loop-row
invariant-loop-row g l =
    let A = g.F.Field.model l.f in
    AllBelow A.size l.v
    × (l.v ≡ reduced_by A (length l.initial.v) (map (row_of (length l.initial.v)) (take l.row-index l.rows)) l.initial.v)
