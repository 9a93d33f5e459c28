use Rattle.std.proofs.Common.{rules, Some, None}
use Rattle.std.specs.Prelude.{MatchOption, MatchResult, Option, ok_or}
use Rattle.quadratic.specs.Known.{same_pair}
use Rattle.quadratic.proofs.PairClone.clone.Goals as goal

pub returns-then-is_same : goal.returns-then-is_same
returns-then-is_same g c =
    record { cases = (search rules, search rules, search rules, λ e. search (rules, same_pair)) }

MatchResult-ok_or :
    {T E A : Type 0} {B : T → Type 0} (P : T → Type 0) (Q : E → Type 0) (o : Option T) (e : E)
    → MatchOption o A B
    → (A → Q e)
    → ((x : T) → B x → P x)
    → MatchResult (ok_or o e) P Q
MatchResult-ok_or P Q None e m none some = none m
MatchResult-ok_or P Q (Some x) e m none some = some x m

pub returns : goal.returns
returns g c =
    let pair = MatchResult-ok_or _ _ c.extend.result _ c.extend.ensures in
    record {
      cases =
          rw c.ok_or.ensures.value
          (pair (λ none. search rules) (λ p h. (search rules, search rules, search rules, λ e. search (rules, same_pair))));
    }
