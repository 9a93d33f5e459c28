use Rattle.std.proofs.Common.{ap, ◌∙◌}
use Rattle.shapes.specs.Shapes.{algebra}
use Rattle.shapes.specs.Laws.{shape_lawful, valid_from_test}
use Rattle.drafts.proofs.Towers.{algebra_is_tower}
use Rattle.text.proofs.record.Record.field.Goals as goal

pub returns : goal.returns
returns c =
    record {
      is = ap algebra c.field.ensures ∙ algebra_is_tower c.args.self.now.draft.field;
      valid = rw c.field.ensures (valid_from_test c.args.self.now.draft.field);
      lawful = rw c.field.ensures (shape_lawful c.args.self.now.draft.field);
    }
