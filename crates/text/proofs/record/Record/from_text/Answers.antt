use Rattle.std.proofs.lemmas.Result.{err_from_is_err_and}
use Rattle.drafts.specs.Drafts.{record_of}
use Rattle.text.proofs.Standing.{refused, stands_for, valid}
use Rattle.text.proofs.record.Record.from_text.Goals as goal

pub returns-in_err-draft : goal.returns-in_err-draft
returns-in_err-draft c =
    let p = err_from_is_err_and c.from_residual.result c.from_residual.ensures.1 in
    rw (p.1, p.2) (refused c.args.text.now _ c.in_err-draft.ensures)

pub invariant_of-result : goal.invariant_of-result
invariant_of-result c = record { valid = ∣ valid c.args.text.now (record_of c.in_ok-draft.draft) c.in_ok-draft.ensures ∣₁ }

pub returns : goal.returns
returns c = stands_for c.args.text.now (record_of c.in_ok-draft.draft) c.in_ok-draft.ensures
