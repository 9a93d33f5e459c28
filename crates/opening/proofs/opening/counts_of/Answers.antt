use Rattle.std.proofs.Common.{◌≡◌, ◌≤◌, length, subst, ◌∙◌, arith, rules}
use Rattle.comparison.specs.Comparisons.{Counted}
use Rattle.tables.specs.Tables.{state_of}
use Rattle.text.specs.Exchange.{declared}
use Rattle.opening.proofs.Records.{ready}
use Rattle.opening.proofs.Standing.{counted, same_length}
use Rattle.opening.proofs.opening.counts_of.Goals as goal

pub overflow_cast-a : goal.overflow_cast-a
overflow_cast-a c =
    let r = ready c.args.source.now in
    let few : length c.states.result.now ≤ 12 =
    omega (arith, same_length state_of c.states.result.now _ c.states.ensures, r.a.few) in
    search rules

pub overflow_cast-b : goal.overflow_cast-b
overflow_cast-b c =
    let r = ready c.args.source.now in
    let few : length c.states-2.result.now ≤ 12 =
    omega (arith, same_length state_of c.states-2.result.now _ c.states-2.ensures, r.b.few) in
    search rules

pub unwrap-requires : goal.unwrap-requires
unwrap-requires c =
    let r = ready c.args.source.now in
    let d = declared c.args.source.now in
    let n = length c.states.result.now in
    let m = length c.states-2.result.now in
    let a : n ≡ length d.a.states = same_length state_of c.states.result.now _ c.states.ensures in
    let b : m ≡ length d.b.states = same_length state_of c.states-2.result.now _ c.states-2.ensures in
    let some_a : 1 ≤ n = omega (arith, a, r.a.some) in
    let few_a : n ≤ 12 = omega (arith, a, r.a.few) in
    let some_b : 1 ≤ m = omega (arith, b, r.b.some) in
    let few_b : m ≤ 12 = omega (arith, b, r.b.few) in
    counted n m c.new.result ((some_a, few_a, some_b, few_b), tt) c.new.ensures

pub returns : goal.returns
returns c =
    let is = subst (Counted _ _) c.unwrap.ensures c.new.ensures in
    record {
      a = is.1.0 ∙ same_length state_of c.states.result.now _ c.states.ensures;
      b = is.1.1 ∙ same_length state_of c.states-2.result.now _ c.states-2.ensures;
    }
