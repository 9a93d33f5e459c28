-- What a session becomes when it is given a record's lists.
use Rattle.std.specs.Prelude.{ℕ, List, ◌++◌, map}
use Rattle.equivalence.specs.Automata.{Automaton, Rule, Sides}
use Rattle.rules.specs.Rules.{rule_model}
use Rattle.rules.specs.declared.Rule as tables
use Rattle.session.specs.Sessions.{side, with_side}
use Rattle.tables.specs.declared.State.{State}
use Rattle.tables.specs.declared.Symbol.{Symbol}

abbrev pub rank_of : Symbol → ℕ
rank_of s = s.rank

abbrev pub final_of : State → ℕ
final_of s = s.weight

-- more symbols, by their ranks
abbrev pub with_symbols : Sides ℕ → List ℕ → Sides ℕ
with_symbols S ks = record { ranks = S.ranks ++ ks; a = S.a; b = S.b }

-- all final weights of a side replaced
abbrev pub with_finals : Sides ℕ → ℕ → List ℕ → Sides ℕ
with_finals S x ws = with_side S x (record { finals = ws; rules = (side S x).rules })

-- more rules on a side
abbrev pub with_rules : Sides ℕ → ℕ → List (Rule ℕ) → Sides ℕ
with_rules S x rs = with_side S x (record { finals = (side S x).finals; rules = (side S x).rules ++ rs })

-- the automaton of a side's states and rules
abbrev pub automaton_of : List State → List tables.Rule → Automaton ℕ
automaton_of ss rs = record { finals = map final_of ss; rules = map rule_model rs }
