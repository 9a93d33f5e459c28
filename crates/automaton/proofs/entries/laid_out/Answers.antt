use Rattle.std.proofs.Common.{◌≡◌, ◌≤◌, ◌∙◌, rules}
use borrow.Author.Tests.{tests}
use Rattle.std.proofs.lemmas.Iterator.{YieldsList-from_slice, YieldsList-from_take}
use Rattle.std.proofs.lemmas.Iterator.Adapters.{YieldsList-from_skip}
use Rattle.table.proofs.Chains.{Decides-from_all}
use Rattle.equivalence.specs.Trees.{rank}
use Rattle.automaton.specs.Tables.{entry_of}
use Rattle.automaton.proofs.Places.{laid_from_parts, unlaid_from_parts}
use Rattle.automaton.proofs.entries.laid_out.Goals as goal

pub returns-then-all : goal.returns-then-all
returns-then-all c =
    let e = c.args.e.now in
    let n = c.args.before in
    let k = rank c.args.ranks.now e.symbol in
    let named = Decides-from_all _ _ _ (λ x. (1 ≤ x) × (x ≤ n)) c.all.ensures.ran (YieldsList-from_take k (YieldsList-from_slice e.children (cc)) (c.take-named.ensures.count ∙ c.in-Some.ensures.1)) (λ x q h. search (rules, tests)) (λ x q h. search (rules, tests)) in
    let rest = Decides-from_all _ _ _ (λ x. x ≡ 0) c.all-then-all.ensures.ran (YieldsList-from_skip k (YieldsList-from_slice e.children (cc)) (c.skip-rest.ensures.count ∙ c.in-Some.ensures.1)) (λ x q h. search (rules, tests)) (λ x q h. search (rules, tests)) in
    laid_from_parts c.args.ranks.now n (entry_of e) e.width c.in-Some.ensures.0 c.all.result named c.all-then-all.result c.if-all.true rest

pub returns-else-all : goal.returns-else-all
returns-else-all c =
    let e = c.args.e.now in
    let n = c.args.before in
    let k = rank c.args.ranks.now e.symbol in
    let named = Decides-from_all _ _ _ (λ x. (1 ≤ x) × (x ≤ n)) c.all.ensures.ran (YieldsList-from_take k (YieldsList-from_slice e.children (cc)) (c.take-named.ensures.count ∙ c.in-Some.ensures.1)) (λ x q h. search (rules, tests)) (λ x q h. search (rules, tests)) in
    unlaid_from_parts c.args.ranks.now n (entry_of e) e.width c.in-Some.ensures.0 c.all.result named c.if-all.false
