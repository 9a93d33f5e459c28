-- The part of a side in a draft, and it replaced. Assumes nothing.
use Rattle.std.proofs.Common.{◌≡◌, ◌≤◌, refl, ap}
use Rattle.format.specs.Reading.{Place, draft_part, with_part}
use Rattle.format.specs.Records as records
use Rattle.lines.specs.Recognized.{side_of}
use Rattle.side.specs.Both.{at, with_at}
use Rattle.side.specs.declared.Side.{Side}
use Rattle.side.specs.declared.Side.TheVariants.{A, B}
use Rattle.drafts.specs.declared.Draft.{Draft}
use Rattle.drafts.specs.declared.Part.{Part}
use Rattle.drafts.specs.Drafts.{draft_of, part_of}

pub part_is : (d : Draft) (x : Side) (p : Place) → part_of (at d.parts x) ≡ draft_part (draft_of d p) (side_of x)
part_is d A p = refl
part_is d B p = refl

pub replaced :
    (d : Draft) (x : Side) (p : Place) (h : d.announced ≤ 2) (m : Part) (P : records.Part)
    → part_of m ≡ P
    → let w = with_part (draft_of d p) (side_of x) P in
    draft_of (record { field = d.field; announced = d.announced; symbols = d.symbols; parts = with_at d.parts x m; two = h }) w.place ≡ w
replaced d A p h m P e = ap (λ Q. with_part (draft_of d p) (side_of A) Q) e
replaced d B p h m P e = ap (λ Q. with_part (draft_of d p) (side_of B) Q) e
