-- What makes GF(256) a field with logarithms.
use Rattle.std.specs.Prelude.{ℕ, List}
use Rattle.field.specs.Algebra.{Lawful}
use Rattle.polynomials.specs.Polynomials.{gf256}
use Rattle.polynomials.specs.Tables.{Generated, InverseTables}

abbrev pub Gf256IsLawful : Type 0
Gf256IsLawful = Lawful gf256

-- 3 generates all but zero: there is a table of its powers, and a table of logarithms that inverts it.
abbrev pub ThreeGenerates : Type 0
ThreeGenerates = (powers : List ℕ) × (logarithms : List ℕ) × Generated powers × InverseTables powers logarithms
