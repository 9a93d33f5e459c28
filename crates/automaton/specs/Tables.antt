-- What the tables stand for.
use Rattle.std.specs.Prelude.{ℕ, ◌-◌, [], replicate, slice_set}
use Rattle.equivalence.specs.Automata as automata
use Rattle.equivalence.specs.Entries as entries
use Rattle.rules.specs.Rules.{rules_of}
use Rattle.table.specs.Items.{items_of}
use Rattle.automaton.specs.declared.Automaton.{Automaton}
use Rattle.automaton.specs.declared.Entry.{Entry}

abbrev pub automaton_of : Automaton → automata.Automaton ℕ
automaton_of m = record { finals = items_of m.finals; rules = rules_of m.rules }

abbrev pub entry_of : Entry → entries.Entry
entry_of e = record { symbol = e.symbol; children = e.children }

-- so many states, all final weights zero, and no rule
abbrev pub blank_automaton : ℕ → automata.Automaton ℕ
blank_automaton n = record { finals = replicate n 0; rules = [] }

-- the final weight of state s, of the states numbered from 1, replaced by w
abbrev pub with_final : automata.Automaton ℕ → ℕ → ℕ → automata.Automaton ℕ
with_final M s w = record { finals = slice_set M.finals (s - 1) w; rules = M.rules }
