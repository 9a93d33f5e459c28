use Rattle.std.proofs.Common.{sym, refl}
use Rattle.words.proofs.Names.{named, padded_length, padded_front, padded_name, padded_rest}
use Rattle.words.proofs.name.Name.new.Goals as goal

pub invariant_of-result : goal.invariant_of-result
invariant_of-result c =
    let e = c.copy_from_slice.ensures.after in
    let n = sym c.if-not-is_name.ensures in
    record { width = padded_length _ _ _ e n refl; short = (named _ n).short; named = padded_name _ _ _ e n; padded = padded_rest _ _ _ e n refl }

pub returns : goal.returns
returns c = padded_front _ _ _ c.copy_from_slice.ensures.after (sym c.if-not-is_name.ensures)
