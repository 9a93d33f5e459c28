-- Worked cases of the definitions: what each gives, and the value that it must have.
use Rattle.std.specs.Prelude.{◌≡◌, ℕ, List, [], ◌∷◌, Some, Option}
use Rattle.std.specs.List.{AllByRecursion}
use Rattle.field.specs.Algebra.{Algebra, inverse}
use Rattle.prime.specs.Residues.{residues}
use Rattle.polynomials.specs.Polynomials.{gf256}
use Rattle.extension.specs.Extension.{extension}

pub record Row : Type 0 where
  pub given : Option ℕ
  pub expected : Option ℕ

-- the nine elements a + bω over the residues modulo 3, with ω² = 2
abbrev pub nine : Algebra
nine = extension (residues 3) 0 2

abbrev pub arithmetic : List Row
arithmetic =
    record { given = Some (gf256.prod 87 131); expected = Some 193 }
    ∷ record { given = inverse gf256 83; expected = Some 202 }
    ∷ record { given = Some (nine.prod 3 3); expected = Some 2 }
    ∷ record { given = inverse nine 4; expected = Some 5 }
    ∷ []

abbrev pub AllAsExpected : List Row → Type 0
AllAsExpected rows = AllByRecursion (λ r. r.given ≡ r.expected) rows
