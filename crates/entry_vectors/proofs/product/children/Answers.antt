use Rattle.std.proofs.Common.{arith, rules}
use Rattle.std.proofs.lemmas.List.{get_or_past}
use Rattle.entry_vectors.proofs.Products.{named_take}
use Rattle.entry_vectors.proofs.product.children.Goals as goal

pub returns : goal.returns
returns c =
    let past = get_or_past c.args.e.now.children 3 0 (omega (arith, c.args.e.now.width)) in
    named_take c.args.e.now.children c.unwrap_or-arity.result (search rules) (search rules)
