-- A table whose items stand for something.
use Rattle.std.proofs.Common.{◌≡◌, ℕ, List, map, length, Result, Ok, Err, false, refl, ap, ◌∙◌, arith}
use lib.ListN.{length-map}
use Rattle.std.proofs.lemmas.List.{length-take-le, map_push}
use Rattle.std.proofs.lemmas.Bool.{both_ways}
use Rattle.table.specs.declared.Table.{Table}
use Rattle.table.specs.Items.{Adds, items_of}

pub length_items : {T : Type 0} {N : ℕ} (t : Table T N) → length (items_of t) ≡ t.count
length_items t =
    let few = t.few in
    let width = t.width in
    length-take-le t.count t.entries (omega arith)

-- What is added to the items is added to what they stand for.
pub adds_map : {X Y U E : Type 0} (f : X → Y) (limit : ℕ) (before : List X) (x : X) (r : Result U E) (result : List X) → Adds limit before x r result → Adds limit (map f before) (f x) r (map f result)
adds_map f limit before x (Ok u) result h =
    let l = length-map before f in
    let less = h.room.0 refl in
    record { room = (λ _. omega arith, λ _. refl); added = ap (map f) h.added ∙ map_push f before x; kept = tt }
adds_map f limit before x (Err e) result h =
    let l = length-map before f in
    record { room = (λ t. absurd (both_ways false refl t), λ less. h.room.1 (omega arith)); added = tt; kept = ap (map f) h.kept }
