-- What an open comparison holds, and the field that it is over.
use Rattle.comparison.specs.Comparisons as comparison
use Rattle.field.specs.declared.Field.{Ghosts}
use Rattle.opening.specs.declared.opened.Opened.{Opened}
use Rattle.session.specs.Sessions.{Session}

abbrev pub session : {X : Type 0} {g : Ghosts X} → Opened X g → Session
session o = comparison.session o.comparison

abbrev pub field_of : {X : Type 0} {g : Ghosts X} → Opened X g → X
field_of o = comparison.field_of o.comparison
