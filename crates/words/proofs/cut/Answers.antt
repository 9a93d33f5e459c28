use Rattle.std.proofs.Common.{◌≡◌, Some, None, length, arith, rules}
use borrow.Author.Tests.{tests}
use Rattle.std.specs.Prelude.{◌≢◌}
use Rattle.std.proofs.lemmas.Iterator.{IsFirst-from_position, YieldsList-from_slice}
use Rattle.std.proofs.lemmas.List.{take_all}
use Rattle.words.proofs.Lines.{cut_at, lacks_before}
use Rattle.words.proofs.cut.Goals as goal

pub returns-in_err-i : goal.returns-in_err-i
returns-in_err-i c =
    let none = IsFirst-from_position _ _ None (λ b. b ≡ c.args.stop) (λ b. b ≢ c.args.stop) c.in_err-i.ensures.ran (YieldsList-from_slice c.args.text.now cc) (λ x q k. search (rules, tests)) (λ x q k. search (rules, tests)) in
    rw c.from_residual.ensures (rw (take_all (length c.args.text.now) c.args.text.now (omega arith)) at (lacks_before c.args.stop c.args.text.now _ (omega arith) none))

pub returns : goal.returns
returns c =
    let (less, here, before) = IsFirst-from_position _ _ (Some c.in_ok-i.i) (λ b. b ≡ c.args.stop) (λ b. b ≢ c.args.stop) c.in_ok-i.ensures.ran (YieldsList-from_slice c.args.text.now cc) (λ x q k. search (rules, tests)) (λ x q k. search (rules, tests)) in
    cut_at c.args.stop c.args.text.now c.in_ok-i.i less (here 0) (lacks_before c.args.stop c.args.text.now c.in_ok-i.i (omega arith) before)
