use Rattle.std.proofs.Common.{◌≡◌, true, false, rules}
use borrow.Author.Tests.{tests}
use Rattle.std.specs.Prelude.{◌==◌}
use Rattle.std.proofs.lemmas.Iterator.{cases_from_all}
use Rattle.std.proofs.lemmas.Iterator.Splits.{YieldsList-from_slice_split}
use Rattle.words.specs.Words.{is_name}
use Rattle.lines.proofs.Children.{names_tell, pieces_split}
use Rattle.lines.proofs.kinds.are_names.Goals as goal

pub returns : goal.returns
returns c =
    names_tell c.args.part.now _ (pieces_split c.args.part.now) c.all.result
    (cases_from_all _ _ c.all.result (λ p. is_name p ≡ true) (λ p. is_name p ≡ false) c.all.ensures.ran
    (YieldsList-from_slice_split _ (λ b. b == 32) c.args.part.now c.split.ensures.rest c.split.ensures.done c.split.ensures.closure (λ x b q k. search (rules, tests)))
    (λ x q k. search (rules, tests)) (λ x q k. search (rules, tests)))
