-- What a table holds.
use Rattle.std.specs.Prelude.{◌≡◌, ℕ, ◌<◌, ◌↔◌, List, [], ◌∷◌, ◌++◌, length, take, Result, IsOk, OnOk, OnErr}
use Rattle.table.specs.declared.Table.{Table}

abbrev pub items_of : {T : Type 0} {N : ℕ} → Table T N → List T
items_of t = take t.count t.entries

-- A list takes one element more at its end, exactly where it is shorter than the limit, and is as it was where not.
pub record Adds {X U E : Type 0} (limit : ℕ) (before : List X) (x : X) (r : Result U E) (result : List X) : Type 0 where
  pub room : IsOk r ↔ (length before < limit)
  pub added : OnOk r (result ≡ before ++ (x ∷ []))
  pub kept : OnErr r (result ≡ before)
