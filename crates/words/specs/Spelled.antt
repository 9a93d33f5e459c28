-- The bytes of a name.
use Rattle.std.specs.Prelude.{ℕ, List, take}
use Rattle.words.specs.declared.name.Name.{Name}

abbrev pub spelled : Name → List ℕ
spelled n = take n.len n.bytes
