use Rattle.std.proofs.lemmas.Bool.{both_ways}
use Rattle.lines.proofs.Children.{ends_with, alone_ends, with_ends}
use Rattle.lines.proofs.kinds.ending.Goals as goal

pub returns-in_err-number-in-None : goal.returns-in_err-number-in-None
returns-in_err-number-in-None c =
    rw c.from_residual.ensures
    (λ w cs h. c.in_err-number-in-None.ensures w (alone_ends _ c.in-None.ensures w cs h))

pub returns-then-not-are_names : goal.returns-then-not-are_names
returns-then-not-are_names c w cs h =
    both_ways _ c.if-not-are_names.true (c.are_names.ensures.1 (with_ends _ _ _ c.in-Some.ensures w cs h).1)

pub returns-in_err-number-in-Some : goal.returns-in_err-number-in-Some
returns-in_err-number-in-Some c =
    rw c.from_residual-in_err-number-in-Some.ensures
    (λ w cs h. c.in_err-number-in-Some.ensures w (with_ends _ _ _ c.in-Some.ensures w cs h).0)

pub returns-in_ok-number-in-Some : goal.returns-in_ok-number-in-Some
returns-in_ok-number-in-Some c =
    ends_with _ _ c.in-Some.children.now _ c.in-Some.ensures (c.are_names.ensures.0 c.if-not-are_names.false) c.in_ok-number-in-Some.ensures
