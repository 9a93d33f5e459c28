-- What a text declares: the field, the symbols, and the states and rules of the two sides, each in order.
use Rattle.std.specs.Prelude.{◌≡◌, ℕ, ◌-◌, ◌<◌, ◌≤◌, true, List, [], ◌∷◌, ◌++◌, map, length, get_or, ◌≢◌, slice_index, slice_index_or}
use Rattle.std.specs.List.{AllByRecursion}
use Rattle.field.specs.Algebra.{Algebra}
use Rattle.shapes.specs.Shapes.{kind_algebra, named}
use Rattle.shapes.specs.declared.shape.Kind.{Kind}
use Rattle.extension.specs.Extension.{extension, Extends}
use Rattle.words.specs.Words.{is_name}
use Rattle.equivalence.specs.Automata.{Rule, Automaton, Sides}
use Rattle.format.specs.Lines.{Side, Line, fields, steps, symbols, states, rules, A, B, opens, names_field, extends_by, declares_symbol, declares_state, gives_rule, text_of_lines}

pub record Symbol : Type 0 where
  pub name : List ℕ
  pub rank : ℕ

pub record State : Type 0 where
  pub name : List ℕ
  pub final : ℕ

-- states and symbols are numbered from 1 in the order of their lines
pub record Part : Type 0 where
  pub states : List State
  pub rules : List (Rule ℕ)

pub record Record : Type 0 where
  pub kind : Kind
  pub steps : List (ℕ × ℕ)
  pub symbols : List Symbol
  pub a : Part
  pub b : Part

-- the field of a kind with its extensions, the first over the kind
abbrev pub tower : Algebra → List (ℕ × ℕ) → Algebra
tower F [] = F
tower F (s ∷ ss) = tower (extension F s.0 s.1) ss

abbrev pub field_of : Record → Algebra
field_of r = tower (kind_algebra r.kind) r.steps

-- every step extends the field that the steps before it made
abbrev pub AllExtend : Algebra → List (ℕ × ℕ) → Type 0
AllExtend F [] = Unit {0}
AllExtend F (s ∷ ss) = Extends F s.0 s.1 × AllExtend (extension F s.0 s.1) ss

abbrev pub part : Record → Side → Part
part r A = r.a
part r B = r.b

-- no two of the list are equal
abbrev pub Distinct : List (List ℕ) → Type 0
Distinct [] = Unit {0}
Distinct (x ∷ xs) = AllByRecursion (λ y. y ≢ x) xs × Distinct xs

abbrev pub symbol_names : List Symbol → List (List ℕ)
symbol_names ss = map (λ s. s.name) ss

abbrev pub state_names : List State → List (List ℕ)
state_names ss = map (λ s. s.name) ss

-- A number from 1 to n.
abbrev pub NumbersOneOf : ℕ → ℕ → Type 0
NumbersOneOf n k = (1 ≤ k) × (k ≤ n)

pub record ValidRule (q : ℕ) (ss : List Symbol) (n : ℕ) (r : Rule ℕ) : Type 0 where
  pub symbol : NumbersOneOf (length ss) r.symbol
  pub rank : length r.children ≡ slice_index (map (λ s. s.rank) ss) (r.symbol - 1)
  pub target : NumbersOneOf n r.target
  pub children : AllByRecursion (NumbersOneOf n) r.children
  pub weight : r.weight < q

-- 1 to 12 states with names of their own, at most 256 rules, all weights elements of the field
pub record ValidPart (q : ℕ) (ss : List Symbol) (p : Part) : Type 0 where
  pub some : 1 ≤ length p.states
  pub few : length p.states ≤ 12
  pub names : AllByRecursion (λ s. is_name s.name ≡ true) p.states
  pub distinct : Distinct (state_names p.states)
  pub finals : AllByRecursion (λ s. s.final < q) p.states
  pub few_rules : length p.rules ≤ 256
  pub rules : AllByRecursion (ValidRule q ss (length p.states)) p.rules

-- A record: a field that keeps the laws, 1 to 12 symbols of rank 0 to 3 with names of their own, and two sides.
pub record ValidRecord (r : Record) : Type 0 where
  pub kind : named r.kind ≡ true
  pub at_most_two : length r.steps ≤ 2
  pub steps : AllExtend (kind_algebra r.kind) r.steps
  pub some : 1 ≤ length r.symbols
  pub few : length r.symbols ≤ 12
  pub names : AllByRecursion (λ s. is_name s.name ≡ true) r.symbols
  pub distinct : Distinct (symbol_names r.symbols)
  pub ranks : AllByRecursion (λ s. s.rank ≤ 3) r.symbols
  pub a : ValidPart (field_of r).size r.symbols r.a
  pub b : ValidPart (field_of r).size r.symbols r.b

-- the lines of a record's text
abbrev pub rule_line : Record → Side → Rule ℕ → Line
rule_line r d u =
    let name = λ (k : ℕ). get_or (state_names (part r d).states) (k - 1) [] in
    gives_rule d (slice_index_or (symbol_names r.symbols) (u.symbol - 1) []) (name u.target) u.weight (map name u.children)

abbrev pub state_lines : Record → Side → List Line
state_lines r d = map (λ s. declares_state d s.name s.final) (part r d).states

abbrev pub rule_lines : Record → Side → List Line
rule_lines r d = map (rule_line r d) (part r d).rules

abbrev pub lines_of : Record → List Line
lines_of r =
    (opens fields ∷ names_field r.kind (length r.steps) ∷ [])
    ++ ((opens steps ∷ map (λ s. extends_by s.0 s.1) r.steps)
    ++ ((opens symbols ∷ map (λ s. declares_symbol s.name s.rank) r.symbols)
    ++ ((opens states ∷ (state_lines r A ++ state_lines r B))
    ++ (opens rules ∷ (rule_lines r A ++ rule_lines r B)))))

-- the text of a record
abbrev pub text_of : Record → List ℕ
text_of r = text_of_lines (lines_of r)

-- the automata that a record declares
abbrev pub automaton : Part → Automaton ℕ
automaton p = record { finals = map (λ s. s.final) p.states; rules = p.rules }

abbrev pub sides : Record → Sides ℕ
sides r = record { ranks = map (λ s. s.rank) r.symbols; a = automaton r.a; b = automaton r.b }
