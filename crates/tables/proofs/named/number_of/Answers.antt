use Rattle.std.proofs.Common.{◌≡◌, rules, sym, arith}
use borrow.Author.Tests.{tests}
use Rattle.std.proofs.lemmas.Iterator.{YieldsList-from_slice, IsFirst-from_position}
use Rattle.tables.proofs.Names.{first_called, none_called}
use Rattle.tables.proofs.named.number_of.Goals as goal

pub returns-in_err-at : goal.returns-in_err-at
returns-in_err-at g c =
    let called = g.T.Named.called in
    let xs = c.args.items.now in
    let x = c.args.name.now in
    let first = IsFirst-from_position _ _ c.position.result (λ y. called y ≡ x) (λ y. called y ≡ x → ⊥) c.position.ensures.ran (YieldsList-from_slice xs (cc)) (λ y q k. search (rules, tests)) (λ y q k. search (rules, tests)) in
    rw c.from_residual.ensures (none_called called x xs (rw c.in_err-at.was at first))

pub returns : goal.returns
returns g c =
    let called = g.T.Named.called in
    let xs = c.args.items.now in
    let x = c.args.name.now in
    let first = IsFirst-from_position _ _ c.position.result (λ y. called y ≡ x) (λ y. called y ≡ x → ⊥) c.position.ensures.ran (YieldsList-from_slice xs (cc)) (λ y q k. search (rules, tests)) (λ y q k. search (rules, tests)) in
    let w = c.in_ok-at.was in
    let f = rw w at first in
    let e = first_called called x xs c.in_ok-at.at f.0 f.1 f.2 in
    (omega arith, sym e)
