-- What a setting and a side are given, and what a tree weighs in a side.
use Rattle.std.specs.Prelude.{◌≡◌, ℕ, suc, ◌≤◌, List, [], ◌∷◌, ◌++◌, length, Result, MatchResult}
use Rattle.automaton.specs.Tables.{automaton_of}
use Rattle.automaton.specs.declared.Automaton.{Automaton}
use Rattle.equivalence.specs.Automata as automata
use Rattle.equivalence.specs.Entries.{Entry, WellFormed, tree_of}
use Rattle.field.specs.Algebra.{Algebra, ops}
use Rattle.refusals.specs.declared.Refusal.{Refusal}
use Rattle.refusals.specs.declared.Refusal.TheVariants.{MalformedTree}
use Rattle.session.specs.Calls.{Check, AllPass, FirstFailing, symbol_checks}

-- One symbol more is declared and has the next number, or the first check that fails gives the refusal and the ranks are
-- as they were.
abbrev pub Declares : List ℕ → ℕ → Result ℕ Refusal → List ℕ → Type 0
Declares ranks k r result =
    MatchResult r
    (λ n. AllPass (symbol_checks ranks k) × (n ≡ suc (length ranks)) × (result ≡ ranks ++ (k ∷ [])))
    (λ e. FirstFailing (symbol_checks ranks k) e × (result ≡ ranks))

-- A side is given something: it passes the checks and is as said, or the first check that fails gives the refusal and the
-- side is as it was.
abbrev pub Takes : {U : Type 0} → List Check → Result U Refusal → Automaton → automata.Automaton ℕ → Automaton → Type 0
Takes cs r before grown result =
    MatchResult r (λ _. AllPass cs × (automaton_of result ≡ grown)) (λ e. FirstFailing cs e × (result ≡ before))

-- The value of the tree that a list stands for, where it stands for one and has at most 64 entries.
abbrev pub Weighs : Algebra → List ℕ → automata.Automaton ℕ → List Entry → Result ℕ Refusal → Type 0
Weighs A ranks M es r =
    let passes = WellFormed ranks es × (length es ≤ 64) in
    MatchResult r (λ v. passes × (v ≡ automata.value (ops A) M (tree_of es))) (λ e. (passes → ⊥) × (e ≡ MalformedTree))
