-- Between two records there is at most one equation, as the library finds. Assumes nothing.
use Rattle.std.proofs.Props.{props}
use Rattle.format.specs.Records.{Record}

pub record_set : IsSet Record
record_set x y = hlevel props
