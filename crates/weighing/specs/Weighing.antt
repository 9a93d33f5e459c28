-- What weighing asks of a list of entries.
use Rattle.std.specs.Prelude.{ℕ, List}
use Rattle.equivalence.specs.Entries.{Entry, WellFormed}

-- a list that stands for a tree over some declared symbols
abbrev pub Stands : List Entry → Type 0
Stands es = (ranks : List ℕ) × WellFormed ranks es
