-- What each operation gives at two codes of a field.
use Rattle.std.specs.Prelude.{◌≡◌, ℕ, Some, Option}
use Rattle.field.specs.Algebra.{Algebra, inverse, Quotient}
use Rattle.worked.specs.declared.rows.Op.{Op}
use Rattle.worked.specs.declared.rows.Op.TheVariants.{Add, Mul, Neg, Inv, Div}

abbrev pub Gives : Algebra → Op → ℕ → ℕ → Option ℕ → Type 0
Gives A Add a b r = r ≡ Some (A.sum a b)
Gives A Mul a b r = r ≡ Some (A.prod a b)
Gives A Neg a b r = r ≡ Some (A.opp a)
Gives A Inv a b r = r ≡ inverse A a
Gives A Div a b r = Quotient A a b r
