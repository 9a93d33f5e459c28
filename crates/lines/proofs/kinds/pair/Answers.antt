use Rattle.std.proofs.Common.{sym}
use Rattle.std.proofs.lemmas.Bool.{both_ways}
use Rattle.lines.proofs.Absence.{pair_absent}
use Rattle.lines.proofs.kinds.pair.Goals as goal

pub returns-in_err-last : goal.returns-in_err-last
returns-in_err-last c =
    let none = c.in_err-last.ensures in
    rw c.from_residual.ensures (pair_absent _ _ c.requires.fields c.requires.none (λ _ v _ n. none v n) (λ _ k n. none k n))

pub returns : goal.returns
returns c =
    pair_absent _ _ c.requires.fields c.requires.none
    (λ u _ n _. c.in_default.ensures u n)
    (λ h _ _. both_ways _ (sym c.if-is_name.ensures) h)
