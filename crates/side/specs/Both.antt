-- What a side has, and it replaced.
use Rattle.side.specs.declared.Side.{Side}
use Rattle.side.specs.declared.Side.TheVariants.{A, B}
use Rattle.side.specs.declared.both.Both.{Both}

abbrev pub at : {T : Type 0} → Both T → Side → T
at s A = s.a
at s B = s.b

abbrev pub with_at : {T : Type 0} → Both T → Side → T → Both T
with_at s A x = record { a = x; b = s.b }
with_at s B x = record { a = s.a; b = x }
