use Rattle.std.proofs.Common.{subst}
use Rattle.extension.specs.Extension.{Extends}
use Rattle.tables.specs.Tables.{symbols_of}
use Rattle.drafts.specs.Drafts.{part_of}
use Rattle.drafts.proofs.Towers.{algebra_is_tower}
use Rattle.drafts.proofs.Draft.extend_by.Goals as goal

pub returns : goal.returns
returns c p =
    let d = c.args.self.now in
    let e = rw c.in_ok-self.ensures.ok_part at c.extended.ensures in (
      (subst (λ F. Extends F c.args.u c.args.v) (algebra_is_tower d.field) e.0.0, tt),
      λ j. record {
        place = p;
        kind = e.1.0 j;
        count = d.announced;
        steps = e.1.1 j;
        symbols = symbols_of d.symbols;
        a = part_of d.parts.a;
        b = part_of d.parts.b;
      },
    )
