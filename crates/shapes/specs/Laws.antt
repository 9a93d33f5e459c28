-- A shape is a field, and each extension in it is one. Assumes nothing.
use Rattle.std.proofs.lemmas.Bool.{and_from}
use Rattle.field.specs.Algebra.{Lawful}
use Rattle.prime.specs.Residues.{residues}
use Rattle.prime.specs.Moduli.{admitted}
use Rattle.prime.specs.Inverses.{residue_field}
use Rattle.prime.specs.Primality.{admitted_prime, admitted_fits}
use Rattle.polynomials.proofs.Laws.{field}
use Rattle.extension.proofs.Laws.{extension_lawful, test_from_extends}
use Rattle.quadratic.specs.Known.{extends}
use Rattle.std.specs.Prelude.{◌≡◌, ℕ, true, refl}
use Rattle.shapes.specs.Shapes.{algebra, valid, ValidShape}
use Rattle.shapes.specs.declared.shape.Shape.{Shape}
use Rattle.shapes.specs.declared.shape.Shape.TheVariants.{Prime, Byte, PrimePair, BytePair, PrimeTower, ByteTower}

prime : (p : ℕ) → admitted p ≡ true → Lawful (residues p)
prime p h = residue_field p (admitted_prime p h) (admitted_fits p h)

pub shape_lawful : (s : Shape) → Lawful (algebra s)
shape_lawful (Prime f) = prime f.modulus f.listed
shape_lawful (Byte f) = field
shape_lawful (PrimePair f) = extension_lawful _ (prime f.base.modulus f.base.listed) f.u f.v (extends f)
shape_lawful (BytePair f) = extension_lawful _ field f.u f.v (extends f)
shape_lawful (PrimeTower f) =
    extension_lawful _
    (extension_lawful _ (prime f.base.base.modulus f.base.base.listed) f.base.u f.base.v (extends f.base))
    f.u f.v (extends f)
shape_lawful (ByteTower f) =
    extension_lawful _ (extension_lawful _ field f.base.u f.base.v (extends f.base))
    f.u f.v (extends f)

-- what a shape is by its type, and the test of it
pub valid_from_test : (s : Shape) → ValidShape s
valid_from_test (Prime f) = tt
valid_from_test (Byte f) = tt
valid_from_test (PrimePair f) = record { base = tt; extends = extends f }
valid_from_test (BytePair f) = record { base = tt; extends = extends f }
valid_from_test (PrimeTower f) = record { base = record { base = tt; extends = extends f.base }; extends = extends f }
valid_from_test (ByteTower f) = record { base = record { base = tt; extends = extends f.base }; extends = extends f }

pub test_from_valid : (s : Shape) → valid s ≡ true
test_from_valid (Prime f) = refl
test_from_valid (Byte f) = refl
test_from_valid (PrimePair f) = test_from_extends _ _ _ (extends f)
test_from_valid (BytePair f) = test_from_extends _ _ _ (extends f)
test_from_valid (PrimeTower f) = and_from _ _ (test_from_extends _ _ _ (extends f.base)) (test_from_extends _ _ _ (extends f))
test_from_valid (ByteTower f) = and_from _ _ (test_from_extends _ _ _ (extends f.base)) (test_from_extends _ _ _ (extends f))
