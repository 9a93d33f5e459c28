-- What makes the extension a field, for every lawful base.
use Rattle.std.specs.Prelude.{◌≡◌, ℕ, ◌<◌, true, ◌↔◌}
use Rattle.field.specs.Algebra.{Algebra, Lawful, inverse}
use Rattle.extension.specs.Extension.{by_norm, extension, extendable, Extends}

abbrev pub ExtensionIsLawful : Type 0
ExtensionIsLawful = (B : Algebra) → Lawful B → (u v : ℕ) → Extends B u v → Lawful (extension B u v)

abbrev pub NormGivesInverse : Type 0
NormGivesInverse =
    (B : Algebra)
    → Lawful B
    → (u v : ℕ)
    → Extends B u v
    → (x : ℕ)
    → x < (extension B u v).size
    → inverse (extension B u v) x ≡ by_norm B u v x

abbrev pub ExtendsByTest : Type 0
ExtendsByTest = (B : Algebra) (u v : ℕ) → extendable B u v ≡ true ↔ Extends B u v
