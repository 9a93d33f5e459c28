use Rattle.std.proofs.Common.{◌≡◌, ℕ, zero, suc, ◌<◌, List, [], ◌∷◌, map, length, get_or, is_some, Option, Some, None, ap, ◌∙◌, subst, sym, arith}
use Rattle.std.proofs.lemmas.Bool.{false≢true}
use Rattle.tables.proofs.children.Children.declared.Goals as goal

all_there : (ns : List ℕ) (k : ℕ) → k < length (map Some ns) → get_or (map Some ns) k None ≡ None → ⊥
all_there [] k less e = absurd (omega arith)
all_there (n ∷ ns) zero less e = false≢true (sym (ap is_some e))
all_there (n ∷ ns) (suc k) less e = all_there ns k (omega arith) e

missing : (os : List (Option ℕ)) (k : ℕ) → k < length os → get_or os k None ≡ None → (ns : List ℕ) → os ≡ map Some ns → ⊥
missing os k less e ns same =
    all_there ns k (subst (λ xs. k < length xs) same less) (subst (λ xs. get_or xs k None ≡ None) same e)

pub returns-in_err-number : goal.returns-in_err-number
returns-in_err-number c =
    rw c.from_residual.ensures
    (λ ns same. missing _ c.loop-number.number-index c.loop-number-test.true c.in_err-number.was ns (c.items-number-items.ensures.are ∙ same))
