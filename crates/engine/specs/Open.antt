-- What a setting and two automata over it stand for.
use Rattle.std.specs.Prelude.{ℕ}
use Rattle.automaton.specs.Tables.{automaton_of}
use Rattle.equivalence.specs.Automata.{Sides}
use Rattle.session.specs.Sessions.{Session}
use Rattle.session.specs.declared.Phase.TheVariants.{Open}
use Rattle.automaton.specs.declared.Automaton.{Automaton}
use Rattle.side.specs.declared.both.Both.{Both}
use Rattle.sides.specs.declared.setting.Setting.{Setting}
use Rattle.table.specs.Items.{items_of}

abbrev pub sides : {X : Type 0} → Setting X → Both Automaton → Sides ℕ
sides s m = record { ranks = items_of s.ranks; a = automaton_of m.a; b = automaton_of m.b }

-- an open session that holds these sides
abbrev pub opened : Sides ℕ → Session
opened S = record { phase = Open; sides = S }
