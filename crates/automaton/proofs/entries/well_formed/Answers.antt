use Rattle.std.proofs.Common.{rules, arith}
use borrow.Author.Tests.{tests}
use Rattle.std.proofs.lemmas.Iterator.{YieldsList-from_slice}
use Rattle.std.proofs.lemmas.Iterator.Consumers.{YieldsList-from_enumerate}
use Rattle.table.proofs.Chains.{Decides-from_all}
use Rattle.automaton.proofs.Places.{LaidAt, some_entry, well_formed_from_each}
use Rattle.automaton.proofs.entries.well_formed.Goals as goal

pub returns : goal.returns
returns c =
    let xs = c.args.entries.now in
    let ranks = c.args.ranks.now in
    let each = Decides-from_all _ _ _ (LaidAt ranks) c.all.ensures.ran (YieldsList-from_enumerate (YieldsList-from_slice xs (cc)) (cc)) (λ x q k. search (rules, tests)) (λ x q k. search (rules, tests)) in
    well_formed_from_each ranks xs c.all.result (some_entry xs c.is_empty.result c.is_empty.ensures c.if-is_empty.false) (omega arith) each
