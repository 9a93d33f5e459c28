use Rattle.std.proofs.Common.{◌≡◌, length, rules, sym, ◌∙◌, arith}
use Rattle.std.specs.List.{between, list_all}
use borrow.Author.Tests.{tests}
use Rattle.std.proofs.lemmas.Bool.{leb-true}
use Rattle.std.proofs.lemmas.Iterator.{YieldsList-from_slice}
use Rattle.std.proofs.lemmas.Iterator.Search.{all_from_yields_List}
use Rattle.std.proofs.lemmas.Slice.{first_rest}
use Rattle.words.specs.Words.{inner}
use Rattle.words.proofs.Names.{name_is}
use Rattle.words.proofs.spelling.is_name.Goals as goal
use Rattle.words.proofs.spelling.is_name.Goals.{then-rest-le7, else-rest-le7}

pub returns-then-is_ascii_lowercase : goal.returns-then-is_ascii_lowercase
returns-then-is_ascii_lowercase c =
    let e = first_rest c.args.part.now 0 (omega arith) in
    elim c.if-rest-le7.branch [
      | then-rest-le7 w ↦
          let all : c.all.result ≡ list_all inner (between 1 (length c.args.part.now) c.args.part.now) = all_from_yields_List {all = between 1 (length c.args.part.now) c.args.part.now} inner _ _ c.all.result c.all.ensures.ran (YieldsList-from_slice _ cc) (λ x b q k. search (rules, tests)) in
          all ∙ name_is _ _ _ e (sym w.is_ascii_lowercase.ensures.value ∙ sym w.value-is ∙ c.if-is_ascii_lowercase.true) (omega (arith, w.if-rest-le7.true))
      | else-rest-le7 w ↦ absurd (omega (arith, leb-true _ _ (sym w.value-is ∙ c.if-is_ascii_lowercase.true), w.if-rest-le7.false))
    ]
