-- Facts of which there is one proof at most, so that a struct may keep them.
use Rattle.std.specs.Prelude.{ℕ, List}
use Rattle.std.specs.Coded.{×_prop, le_prop}
use Rattle.std.specs.List.{AllByRecursion-prop}
use Rattle.std.proofs.Common.{ap₂}
use Rattle.field.specs.Codes.{Codes}
use Rattle.equivalence.specs.Automata.{Automaton, Rule, Sound, SoundRule, states}

pub SoundRule-prop : (q n : ℕ) (r : Rule ℕ) → IsProp (SoundRule q n r)
SoundRule-prop q n r a b =
    ap₂ (λ w cs. record { weight = w; children = cs }) (le_prop a.weight b.weight)
    (AllByRecursion-prop _ (λ s. ×_prop le_prop le_prop) r.children a.children b.children)

pub Sound-prop : (q : ℕ) (M : Automaton ℕ) → IsProp (Sound q M)
Sound-prop q M a b =
    ap₂ (λ fs rs. record { finals = fs; rules = rs })
    (AllByRecursion-prop _ (λ w. le_prop) M.finals a.finals b.finals)
    (AllByRecursion-prop _ (SoundRule-prop q (states M)) M.rules a.rules b.rules)

pub Codes-prop : (q : ℕ) (vs : List (List ℕ)) → IsProp (Codes q vs)
Codes-prop q vs = AllByRecursion-prop _ (AllByRecursion-prop _ (λ x. le_prop)) vs
