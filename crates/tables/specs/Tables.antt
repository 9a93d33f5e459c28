-- What the tables declare.
use Rattle.std.specs.Prelude.{ℕ, zero, suc, List, map, Option, Some, None}
use Rattle.format.specs.Records as records
use Rattle.words.specs.Spelled.{spelled}
use Rattle.table.specs.Items.{items_of}
use Rattle.table.specs.declared.Table.{Table}
use Rattle.tables.specs.declared.Symbol.{Symbol}
use Rattle.tables.specs.declared.State.{State}
use Rattle.tables.specs.declared.children.Children.{Children}

abbrev pub symbol_of : Symbol → records.Symbol
symbol_of s = record { name = spelled s.name; rank = s.rank }

abbrev pub symbols_of : {N : ℕ} → Table Symbol N → List records.Symbol
symbols_of t = map symbol_of (items_of t)

abbrev pub state_of : State → records.State
state_of s = record { name = spelled s.name; final = s.weight }

abbrev pub states_of : {N : ℕ} → Table State N → List records.State
states_of t = map state_of (items_of t)

-- the children that are kept
abbrev pub children_of : Children → List (Option ℕ)
children_of c = items_of c.numbers

-- the number of a name, where it is declared
abbrev pub numbered : ℕ → Option ℕ
numbered zero = None
numbered (suc n) = Some (suc n)
