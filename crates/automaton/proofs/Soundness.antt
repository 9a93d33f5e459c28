-- Declaring keeps an automaton over codes below q.
use Rattle.std.proofs.Common.{◌≡◌, ℕ, zero, suc, ◌-◌, ◌<◌, [], ◌∷◌, ◌++◌, length, replicate, sym, subst, length-set}
use Rattle.std.specs.List.{AllByRecursion}
use Rattle.std.proofs.ByRecursion.{All-push, All-set}
use Rattle.equivalence.specs.Automata.{Automaton, Rule, Sound, SoundRule, states}
use Rattle.automaton.specs.Tables.{blank_automaton, with_final}

pub all_replicate : {X : Type 0} (P : X → Type 0) (n : ℕ) (x : X) → P x → AllByRecursion P (replicate n x)
all_replicate P zero x p = tt
all_replicate P (suc n) x p = (p, all_replicate P n x p)

module _ (q : ℕ) where
  pub blank_sound : (n : ℕ) → 0 < q → Sound q (blank_automaton n)
  blank_sound n h = record { finals = all_replicate (λ w. w < q) n 0 h; rules = tt }

  module _ (M : Automaton ℕ) (sound : Sound q M) where
    pub final_sound : (s w : ℕ) → w < q → Sound q (with_final M s w)
    final_sound s w h =
        let same : length M.finals ≡ states (with_final M s w) = sym (length-set M.finals (s - 1) w) in
        record {
          finals = All-set (λ x. x < q) M.finals (s - 1) w h sound.finals;
          rules = subst (λ n. AllByRecursion (SoundRule q n) M.rules) same sound.rules;
        }

    pub rule_sound : (r : Rule ℕ) (N : Automaton ℕ) → SoundRule q (states M) r → N.finals ≡ M.finals → N.rules ≡ M.rules ++ (r ∷ []) → Sound q N
    rule_sound r N h finals rules =
        let all = All-push (SoundRule q (states M)) M.rules r sound.rules h in
        let same = subst (AllByRecursion (SoundRule q (states M))) (sym rules) all in
        record {
          finals = subst (AllByRecursion (λ w. w < q)) (sym finals) sound.finals;
          rules = subst (λ fs. AllByRecursion (SoundRule q (length fs)) N.rules) (sym finals) same;
        }
