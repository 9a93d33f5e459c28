use Rattle.std.proofs.Common.{◌≡◌, ℕ, ◌<◌, List, [], ◌∷◌, length, Some, None, Option, Bor, refl, arith}
use Rattle.std.proofs.lemmas.Grind.{common_steps}
use Rattle.std.specs.Option.{unwrap_or}
use Rattle.std.specs.Prelude.{MatchOption}
use Rattle.words.specs.Words.{Cut, Lacks}
use Rattle.lines.specs.Recognized.{parted}
use Rattle.lines.proofs.Children.{first_before}
use Rattle.lines.proofs.Pieces.{parted_field}
use Rattle.lines.proofs.first_name.Goals as goal

-- the first name of some, and what is left, as two parts of the text
abbrev First : List ℕ → Bor (List ℕ) × Bor (List ℕ) → Type 0
First names p = (parted names ≡ p.0.now ∷ parted p.1.now) × (length p.1.now < length names)

first_is : (names : List ℕ) → 0 < length names → (whole : Bor (List ℕ) × Bor (List ℕ)) → whole.0.now ≡ names → whole.1.now ≡ [] → (r : Option (Bor (List ℕ) × Bor (List ℕ))) → MatchOption r (Lacks 32 names) (λ p. Cut 32 names p.0.now p.1.now) → First names (unwrap_or r whole)
first_is names some whole e l (Some p) h = first_before names p.0.now p.1.now h
first_is names some whole e l None h = rw (e, l) (parted_field names (some, h), omega arith)

pub returns : goal.returns
returns c = rw c.unwrap_or.ensures (first_is c.args.children.now (grind (arith, common_steps)) _ refl refl c.cut.result c.cut.ensures)
