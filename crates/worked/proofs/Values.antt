-- The worked cases, computed by antt from the definitions. Assumes nothing.
use Rattle.std.proofs.Common.{refl}
use Rattle.field.specs.Algebra.{inverse, first}
use Rattle.polynomials.specs.Polynomials.{times}
use Rattle.worked.specs.Table.{arithmetic, AllAsExpected}

pub arithmetic_holds : AllAsExpected arithmetic
unfolding times inverse first
arithmetic_holds = (refl, (refl, (refl, (refl, tt))))
