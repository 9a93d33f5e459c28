-- What a rule and a table of rules stand for.
use Rattle.std.specs.Prelude.{ℕ, List, map}
use Rattle.equivalence.specs.Automata as automata
use Rattle.table.specs.Items.{items_of}
use Rattle.table.specs.declared.Table.{Table}
use Rattle.rules.specs.declared.Rule.{Rule}

abbrev pub rule_model : Rule → automata.Rule ℕ
rule_model r =
    record { symbol = r.symbol; target = r.target; weight = r.weight; children = items_of r.children }

abbrev pub rules_of : {N : ℕ} → Table Rule N → List (automata.Rule ℕ)
rules_of t = map rule_model (items_of t)
