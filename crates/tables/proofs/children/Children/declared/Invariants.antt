use Rattle.std.proofs.Common.{◌≡◌, map, take, Some}
use Rattle.table.specs.Items.{items_of}
use Rattle.tables.specs.Tables.{children_of}
use Rattle.tables.proofs.children.Children.declared.Given as goal

abbrev pub invariant-loop-number : goal.invariant-loop-number
invariant-loop-number l = take l.number-index (children_of l.self) ≡ map Some (items_of l.numbers)
