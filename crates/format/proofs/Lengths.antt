-- The text of a valid record is short: at most 556 lines of at most 78 bytes. Assumes nothing.
use Rattle.std.proofs.Common.{◌≡◌, ℕ, ◌-◌, ◌*◌, ◌≤◌, true, List, [], ◌∷◌, map, length, arith}
use Rattle.std.specs.List.{AllByRecursion}
use Rattle.std.proofs.lemmas.List.{length-append, length-map}
use Rattle.std.proofs.ByRecursion.{All-append, All-map, All-weaker, All-get_or}
use Rattle.shapes.specs.declared.shape.Kind.TheVariants.{Residues, Bytes}
use Rattle.words.specs.Words.{is_name, spaced}
use Rattle.words.proofs.Names.{named}
use Rattle.words.proofs.Numbers.{decimal_short}
use Rattle.equivalence.specs.Automata.{Rule}
use Rattle.format.specs.Lines.{Block, Side, Line, fields, steps, symbols, states, rules, A, B, opens, names_field, extends_by, declares_symbol, declares_state, gives_rule, heading, letter, line_fields, text_of_lines, Formed}
use Rattle.format.specs.Records.{Symbol, State, Record, field_of, part, ValidRule, ValidPart, ValidRecord, rule_line, state_lines, rule_lines, lines_of, text_of}
use Rattle.format.specs.Reading.{Draft, blank, after, Reads}

-- a field of a line is short
abbrev pub Short : List ℕ → Type 0
Short f = length f ≤ 10

-- a line has few fields, and short ones
abbrev pub Narrow : Line → Type 0
Narrow l = AllByRecursion Short (line_fields l) × (length (line_fields l) ≤ 7)

-- a line has at most three children
abbrev pub Few : Line → Type 0
Few (opens b) = Unit {0}
Few (names_field k n) = Unit {0}
Few (extends_by u v) = Unit {0}
Few (declares_symbol s k) = Unit {0}
Few (declares_state d s w) = Unit {0}
Few (gives_rule d s t w cs) = length cs ≤ 3

name_short : (s : List ℕ) → is_name s ≡ true → Short s
name_short s h = omega (arith, (named s h).short)

heading_short : (b : Block) → AllByRecursion Short (heading b)
heading_short fields = omega arith
heading_short steps = omega arith
heading_short symbols = omega arith
heading_short states = omega arith
heading_short rules = omega arith

pub letter_short : (d : Side) → Short (letter d)
letter_short A = omega arith
letter_short B = omega arith

fields_short : (l : Line) → Formed l → AllByRecursion Short (line_fields l)
fields_short (opens b) h = heading_short b
fields_short (names_field (Residues p) n) h = (omega arith, (decimal_short p h.0, (decimal_short n (omega arith), tt)))
fields_short (names_field Bytes n) h = (omega arith, (omega arith, (decimal_short n (omega arith), tt)))
fields_short (extends_by u v) h = (decimal_short u h.0, (decimal_short v h.1, tt))
fields_short (declares_symbol s k) h = (name_short s h.0, (decimal_short k h.1, tt))
fields_short (declares_state d s w) h = (letter_short d, (name_short s h.0, (decimal_short w h.1, tt)))
fields_short (gives_rule d s t w cs) h = (
  letter_short d,
  (name_short s h.0, (name_short t h.1, (decimal_short w h.2, All-weaker _ _ name_short cs h.3))),
)

fields_few : (l : Line) → Few l → length (line_fields l) ≤ 7
fields_few (opens fields) h = omega arith
fields_few (opens steps) h = omega arith
fields_few (opens symbols) h = omega arith
fields_few (opens states) h = omega arith
fields_few (opens rules) h = omega arith
fields_few (names_field (Residues p) n) h = omega arith
fields_few (names_field Bytes n) h = omega arith
fields_few (extends_by u v) h = omega arith
fields_few (declares_symbol s k) h = omega arith
fields_few (declares_state d s w) h = omega arith
fields_few (gives_rule d s t w cs) h = omega arith

spaced_short : (fs : List (List ℕ)) → AllByRecursion Short fs → length (spaced fs) ≤ 11 * length fs
spaced_short [] h = omega arith
spaced_short (f ∷ []) h = omega arith
spaced_short (f ∷ g ∷ fs) h =
    let more = spaced_short (g ∷ fs) h.1 in
    omega (arith, length-append f (32 ∷ spaced (g ∷ fs)))

pub lines_short : (ls : List Line) → AllByRecursion Narrow ls → length (text_of_lines ls) ≤ 78 * length ls
lines_short [] h = omega arith
lines_short (l ∷ ls) h =
    let more = lines_short ls h.1 in
    let here = spaced_short (line_fields l) h.0.0 in
    simp length-append (omega (arith, h.0.1))

pub formed_narrow : (l : Line) → Formed l → Few l → Narrow l
formed_narrow l f h = (fields_short l f, fields_few l h)

all_narrow : (ls : List Line) → AllByRecursion Formed ls → AllByRecursion Few ls → AllByRecursion Narrow ls
all_narrow [] f h = tt
all_narrow (l ∷ ls) f h = (formed_narrow l f.0 h.0, all_narrow ls f.1 h.1)

reads_formed : (d : Draft) (ls : List Line) (e : Draft) → Reads d ls e → AllByRecursion Formed ls
reads_formed d [] e r = tt
reads_formed d (l ∷ ls) e r = (r.0, reads_formed (after d l) ls e r.3)

all_mapped : (P : Line → Type 0) {X : Type 0} (line : X → Line) → ((x : X) → P (line x)) → (xs : List X) → AllByRecursion P (map line xs)
all_mapped P line h [] = tt
all_mapped P line h (x ∷ xs) = (h x, all_mapped P line h xs)

module _ (r : Record) (v : ValidRecord r) where
  lines_few : length (lines_of r) ≤ 556
  lines_few =
      simp (length-append, length-map)
      (omega (arith, v.at_most_two, v.few, v.a.few, v.b.few, v.a.few_rules, v.b.few_rules))

  states_few : (x : Side) → AllByRecursion Few (state_lines r x)
  states_few x = all_mapped Few (λ (s : State). declares_state x s.name s.final) (λ s. tt) (part r x).states

  rule_few : (x : Side) (n : ℕ) (u : Rule ℕ) → ValidRule (field_of r).size r.symbols n u → Few (rule_line r x u)
  rule_few x n u h =
      let ranks = All-map (λ k. k ≤ 3) (λ (s : Symbol). s.rank) r.symbols v.ranks in
      let rank = All-get_or (λ k. k ≤ 3) _ (u.symbol - 1) 0 (simp length-map (omega (arith, h.symbol))) ranks in
      simp length-map (omega (arith, h.rank))

  rules_few : (x : Side) → ValidPart (field_of r).size r.symbols (part r x) → AllByRecursion Few (rule_lines r x)
  rules_few x f = All-map Few (rule_line r x) _ (All-weaker _ _ (rule_few x _) _ f.rules)

  all_few : AllByRecursion Few (lines_of r)
  all_few = (
    tt,
    (
      tt,
      (
        tt,
        All-append Few _ _ (all_mapped Few (λ (s : ℕ × ℕ). extends_by s.0 s.1) (λ s. tt) r.steps) (
          tt,
          All-append Few _ _ (all_mapped Few (λ (s : Symbol). declares_symbol s.name s.rank) (λ s. tt) r.symbols) (
            tt,
            All-append Few _ _ (All-append Few _ _ (states_few A) (states_few B))
                (tt, All-append Few _ _ (rules_few A v.a) (rules_few B v.b)),
          ),
        ),
      ),
    ),
  )

  pub text_short : (e : Draft) → Reads blank (lines_of r) e → length (text_of r) ≤ 65536
  text_short e reads =
      omega (arith, lines_short (lines_of r) (all_narrow (lines_of r) (reads_formed blank (lines_of r) e reads) all_few), lines_few)
