-- The fields of the six shapes.
use Rattle.std.specs.Prelude.{◌≡◌, ℕ, ◌<◌, Bool, true, ◌&&◌, List, [], ◌∷◌, ◌++◌, length}
use Rattle.field.specs.Algebra.{Algebra}
use Rattle.prime.specs.Moduli.{admitted}
use Rattle.prime.specs.Residues.{residues}
use Rattle.polynomials.specs.Polynomials.{gf256}
use Rattle.extension.specs.Extension.{extension, extendable, Extends, Valid}
use Rattle.shapes.specs.declared.shape.Kind.{Kind}
use Rattle.shapes.specs.declared.shape.Kind.TheVariants.{Residues, Bytes}
use Rattle.shapes.specs.declared.shape.Shape.{Shape}
use Rattle.shapes.specs.declared.shape.Shape.TheVariants.{Prime, Byte, PrimePair, BytePair, PrimeTower, ByteTower}

-- the kind that a shape begins with, and the coefficients u and v of its extensions, the first over the kind
abbrev pub shape_kind : Shape → Kind
shape_kind (Prime f) = Residues f.modulus
shape_kind (Byte f) = Bytes
shape_kind (PrimePair f) = Residues f.base.modulus
shape_kind (BytePair f) = Bytes
shape_kind (PrimeTower f) = Residues f.base.base.modulus
shape_kind (ByteTower f) = Bytes

abbrev pub steps : Shape → List (ℕ × ℕ)
steps (Prime f) = []
steps (Byte f) = []
steps (PrimePair f) = (f.u, f.v) ∷ []
steps (BytePair f) = (f.u, f.v) ∷ []
steps (PrimeTower f) = (f.base.u, f.base.v) ∷ (f.u, f.v) ∷ []
steps (ByteTower f) = (f.base.u, f.base.v) ∷ (f.u, f.v) ∷ []

abbrev pub algebra : Shape → Algebra
algebra (Prime f) = residues f.modulus
algebra (Byte f) = gf256
algebra (PrimePair f) = extension (residues f.base.modulus) f.u f.v
algebra (BytePair f) = extension gf256 f.u f.v
algebra (PrimeTower f) = extension (extension (residues f.base.base.modulus) f.base.u f.base.v) f.u f.v
algebra (ByteTower f) = extension (extension gf256 f.base.u f.base.v) f.u f.v

-- each extension in it is one
abbrev pub ValidShape : Shape → Type 0
ValidShape (Prime f) = Unit {0}
ValidShape (Byte f) = Unit {0}
ValidShape (PrimePair f) = Valid (Unit {0}) (residues f.base.modulus) f.u f.v
ValidShape (BytePair f) = Valid (Unit {0}) gf256 f.u f.v
ValidShape (PrimeTower f) =
    let B = residues f.base.base.modulus in
    Valid (Valid (Unit {0}) B f.base.u f.base.v) (extension B f.base.u f.base.v) f.u f.v
ValidShape (ByteTower f) =
    Valid (Valid (Unit {0}) gf256 f.base.u f.base.v) (extension gf256 f.base.u f.base.v) f.u f.v

-- the same as a test
abbrev pub valid : Shape → Bool
valid (Prime f) = true
valid (Byte f) = true
valid (PrimePair f) = extendable (residues f.base.modulus) f.u f.v
valid (BytePair f) = extendable gf256 f.u f.v
valid (PrimeTower f) =
    let B = residues f.base.base.modulus in
    extendable B f.base.u f.base.v && extendable (extension B f.base.u f.base.v) f.u f.v
valid (ByteTower f) =
    extendable gf256 f.base.u f.base.v && extendable (extension gf256 f.base.u f.base.v) f.u f.v

-- the field of a kind
abbrev pub kind_algebra : Kind → Algebra
kind_algebra (Residues p) = residues p
kind_algebra Bytes = gf256

-- a kind names a field: its modulus is on the list
abbrev pub named : Kind → Bool
named (Residues p) = admitted p
named Bytes = true

-- a shape can be extended by u and v: its field can, and it has not been extended twice
abbrev pub Extendable : Shape → ℕ → ℕ → Type 0
Extendable s u v = Extends (algebra s) u v × (length (steps s) < 2)

-- what it then becomes
abbrev pub Extended : Shape → ℕ → ℕ → Shape → Type 0
Extended s u v t = (shape_kind t ≡ shape_kind s) × (steps t ≡ steps s ++ ((u, v) ∷ []))
