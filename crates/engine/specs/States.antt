-- What a state stands for.
use Rattle.std.specs.Prelude.{ℕ}
use Rattle.equivalence.specs.Automata.{Sides}
use Rattle.engine.specs.Open.{sides}
use Rattle.engine.specs.declared.state.State.{State}
use Rattle.field.specs.declared.Field.{Ghosts}

abbrev pub field_of : {X : Type 0} {g : Ghosts X} → State X g → X
field_of s = s.setting.field

abbrev pub sides_of : {X : Type 0} {g : Ghosts X} → State X g → Sides ℕ
sides_of s = sides s.setting s.automata
