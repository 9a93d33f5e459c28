-- The text of a new record.
use Rattle.std.specs.Prelude.{ℕ, List, [], ◌∷◌, ◌++◌, codes}
use Rattle.std.specs.List.{flat_map}

abbrev pub example : List ℕ
example =
    flat_map (λ l. l ++ (10 ∷ []))
    (codes "kind p steps"
    ∷ codes "prime 7 0"
    ∷ codes "u v"
    ∷ codes "symbol rank"
    ∷ codes "a 0"
    ∷ codes "f 2"
    ∷ codes "side state final"
    ∷ codes "A q 1"
    ∷ codes "B r 1"
    ∷ codes "side symbol target weight children"
    ∷ codes "A a q 1"
    ∷ codes "A f q 1 q q"
    ∷ codes "B a r 1"
    ∷ codes "B f r 3 r r"
    ∷ [])
