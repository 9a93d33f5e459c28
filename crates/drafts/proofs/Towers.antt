-- The field of a shape is the tower of its extensions.
use Rattle.std.proofs.Common.{◌≡◌, refl}
use Rattle.shapes.specs.Shapes.{algebra, kind_algebra, shape_kind, steps}
use Rattle.shapes.specs.declared.shape.Shape.{Shape}
use Rattle.shapes.specs.declared.shape.Shape.TheVariants.{Prime, Byte, PrimePair, BytePair, PrimeTower, ByteTower}
use Rattle.format.specs.Records.{tower}

pub algebra_is_tower : (s : Shape) → algebra s ≡ tower (kind_algebra (shape_kind s)) (steps s)
algebra_is_tower (Prime f) = refl
algebra_is_tower (Byte f) = refl
algebra_is_tower (PrimePair f) = refl
algebra_is_tower (BytePair f) = refl
algebra_is_tower (PrimeTower f) = refl
algebra_is_tower (ByteTower f) = refl
