-- The sessions on the way from a beginning to the record's automata. Assumes nothing.
use Rattle.std.proofs.Common.{◌≡◌, ℕ, List, [], map, length, Ok, Err, Result, refl, sym, ap, ◌∙◌, subst}
use Rattle.std.specs.Result.{IsOk}
use mathlib.Core.List.{map-map}
use lib.ListN.{length-map, length-replicate}
use Rattle.equivalence.specs.Automata.{Automaton, states}
use Rattle.format.specs.Records.{Part, Record, State, Symbol, automaton}
use Rattle.rules.specs.Rules.{rule_model}
use Rattle.rules.specs.declared.Rule as rules
use Rattle.comparison.specs.Comparisons.{Counted}
use Rattle.comparison.specs.declared.counts.Counts.{Counts}
use Rattle.refusals.specs.declared.Refusal.{Refusal}
use Rattle.session.proofs.Outcomes.{not_both}
use Rattle.session.specs.Calls.{AllPass, count_checks}
use Rattle.session.specs.Sessions.{Session, begun, blank, side, with_side, with_sides}
use Rattle.session.specs.Validity.{ValidSide}
use Rattle.session.specs.declared.Phase.TheVariants.{Open}
use Rattle.tables.specs.Tables.{state_of, symbol_of}
use Rattle.tables.specs.declared.State as tables
use Rattle.tables.specs.declared.Symbol as symbols
use Rattle.opening.specs.Opening.{automaton_of, final_of, rank_of}
use Rattle.opening.proofs.Records.{ReadyPart, ranks}
use Rattle.opening.proofs.Steps.{symbolled}

-- what a record's lists stand for
pub same_length : {X Y : Type 0} (f : X → Y) (xs : List X) (ys : List Y) → map f xs ≡ ys → length xs ≡ length ys
same_length f xs ys e = sym (length-map xs f) ∙ ap length e

pub ranks_are : (xs : List symbols.Symbol) (ss : List Symbol) → map symbol_of xs ≡ ss → map rank_of xs ≡ ranks ss
ranks_are xs ss e = sym (map-map (λ (s : Symbol). s.rank) symbol_of xs) ∙ ap ranks e

finals_are :
    (xs : List tables.State) (ss : List State) → map state_of xs ≡ ss → map final_of xs ≡ map (λ (s : State). s.final) ss
finals_are xs ss e = sym (map-map (λ (s : State). s.final) state_of xs) ∙ ap (map (λ (s : State). s.final)) e

pub automaton_is :
    (p : Part) (xs : List tables.State) (rs : List rules.Rule)
    → map state_of xs ≡ p.states
    → map rule_model rs ≡ p.rules
    → automaton_of xs rs ≡ automaton p
automaton_is p xs rs e f i = record { finals = finals_are xs p.states e i; rules = f i }

-- an open session
abbrev pub standing : List ℕ → Automaton ℕ → Automaton ℕ → Session
standing ks M N = record { phase = Open; sides = record { ranks = ks; a = M; b = N } }

-- as it begins, and with the symbols
pub with_ranks :
    (r : Record) (k l : ℕ) (s t : Session) (xs : List symbols.Symbol)
    → s ≡ begun k l
    → k ≡ length r.a.states
    → l ≡ length r.b.states
    → t ≡ symbolled s (map rank_of xs)
    → map symbol_of xs ≡ r.symbols
    → t ≡ standing (ranks r.symbols) (blank (length r.a.states)) (blank (length r.b.states))
with_ranks r k l s t xs e f h j m =
    j
    ∙ (ap (λ z. symbolled z (map rank_of xs)) e
    ∙ (λ i. standing (ranks_are xs r.symbols m i) (blank (f i)) (blank (h i))))

module _ (s t : Session) (ks : List ℕ) (M N P Q : Automaton ℕ) (e : s ≡ standing ks M N) (h : P ≡ Q) where
  pub a_given : t ≡ with_sides s (with_side s.sides 0 P) → t ≡ standing ks Q N
  a_given f = f ∙ (ap (λ z. with_sides z (with_side z.sides 0 P)) e ∙ ap (λ z. standing ks z N) h)

  pub b_given : t ≡ with_sides s (with_side s.sides 1 P) → t ≡ standing ks M Q
  b_given f = f ∙ (ap (λ z. with_sides z (with_side z.sides 1 P)) e ∙ ap (λ z. standing ks M z) h)

-- a side as it began takes a part of the record
pub record ReadySide (q : ℕ) (s : Session) (x : ℕ) (M : Automaton ℕ) : Type 0 where
  pub bare : (side s.sides x).rules ≡ []
  pub valid : ValidSide q s.sides.ranks (states (side s.sides x)) M

module _ (q o x : ℕ) (s : Session) (ss : List Symbol) (p : Part) (M : Automaton ℕ) where
  pub ready_side :
      ReadyPart o ss p
      → q ≡ o
      → s.sides.ranks ≡ ranks ss
      → side s.sides x ≡ blank (length p.states)
      → M ≡ automaton p
      → ReadySide q s x M
  ready_side v e h k j =
      let n = length p.states in
      let count : states (side s.sides x) ≡ n = ap states k ∙ length-replicate n 0 in
      record {
        bare = ap (λ (z : Automaton ℕ). z.rules) k;
        valid =
            subst (λ z. ValidSide z s.sides.ranks (states (side s.sides x)) M) (sym e)
            (subst (λ z. ValidSide o z (states (side s.sides x)) M) (sym h)
            (subst (λ z. ValidSide o (ranks ss) z M) (sym count) (subst (λ z. ValidSide o (ranks ss) n z) (sym j) v.valid)));
      }

-- counts that pass are accepted
pub counted : (n m : ℕ) (r : Result Counts Refusal) → AllPass (count_checks n m) → Counted n m r → IsOk r
counted n m (Ok c) pass h = refl
counted n m (Err e) pass h = absurd (not_both (count_checks n m) e pass h)
