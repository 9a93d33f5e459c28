-- Which texts are accepted, and which fault any other text has.
use Rattle.std.specs.Prelude.{◌≡◌, ℕ, zero, suc, ◌-◌, ◌<◌, ◌≤◌, Bool, true, false, cond, ◌&&◌, ◌⊎◌, List, [], ◌∷◌, ◌++◌, map, length, ◌==◌, ◌≢◌, slice_index}
use Rattle.std.specs.List.{AllByRecursion}
use Rattle.field.specs.Algebra.{Algebra}
use Rattle.shapes.specs.Shapes.{kind_algebra, named}
use Rattle.shapes.specs.declared.shape.Kind.{Kind}
use Rattle.shapes.specs.declared.shape.Kind.TheVariants.{Bytes}
use Rattle.extension.specs.Extension.{Extends}
use Rattle.words.specs.Words.{Lacks}
use Rattle.format.specs.Lines.{Block, Side, Line, fields, steps, symbols, states, rules, A, B, opens, names_field, extends_by, declares_symbol, declares_state, gives_rule, written, text_of_lines, Formed}
use Rattle.format.specs.Records.{Symbol, Part, Record, tower, symbol_names, state_names}

-- where reading stands: before the first line, after the line that opens a block, or after the line that names the field
pub data Place : Type 0 where
  nowhere : Place
  inside : Block → Place
  field_named : Place

-- what the lines so far declared; the count is the number of pair steps announced
pub record Draft : Type 0 where
  pub place : Place
  pub kind : Kind
  pub count : ℕ
  pub steps : List (ℕ × ℕ)
  pub symbols : List Symbol
  pub a : Part
  pub b : Part

abbrev pub no_part : Part
no_part = record { states = []; rules = [] }

abbrev pub blank : Draft
blank =
    record { place = nowhere; kind = Bytes; count = 0; steps = []; symbols = []; a = no_part; b = no_part }

abbrev pub draft_part : Draft → Side → Part
draft_part d A = d.a
draft_part d B = d.b

abbrev pub draft_field : Draft → Algebra
draft_field d = tower (kind_algebra d.kind) d.steps

-- The lines that may come next, by the place. A symbol comes at least once; so does a state of each side, those of A first;
-- rules of A come before those of B; there are as many pair steps as were announced.
abbrev pub MayFollow : Draft → Place → Line → Type 0
MayFollow d nowhere l = l ≡ opens fields
MayFollow d (inside fields) l = (k : Kind) × (n : ℕ) × (l ≡ names_field k n)
MayFollow d field_named l = l ≡ opens steps
MayFollow d (inside steps) l =
    ((length d.steps < d.count) × ((u : ℕ) × (v : ℕ) × (l ≡ extends_by u v)))
    ⊎ ((length d.steps ≡ d.count) × (l ≡ opens symbols))
MayFollow d (inside symbols) l =
    ((s : List ℕ) × (k : ℕ) × (l ≡ declares_symbol s k)) ⊎ ((1 ≤ length d.symbols) × (l ≡ opens states))
MayFollow d (inside states) l =
    ((length d.b.states ≡ 0) × ((s : List ℕ) × (w : ℕ) × (l ≡ declares_state A s w)))
    ⊎ (((1 ≤ length d.a.states) × ((s : List ℕ) × (w : ℕ) × (l ≡ declares_state B s w)))
    ⊎ ((1 ≤ length d.b.states) × (l ≡ opens rules)))
MayFollow d (inside rules) l =
    ((length d.b.rules ≡ 0)
    × ((s : List ℕ) × (t : List ℕ) × (w : ℕ) × (cs : List (List ℕ)) × (l ≡ gives_rule A s t w cs)))
    ⊎ ((s : List ℕ) × (t : List ℕ) × (w : ℕ) × (cs : List (List ℕ)) × (l ≡ gives_rule B s t w cs))

-- the text may end here
abbrev pub Complete : Draft → Type 0
Complete d = d.place ≡ inside rules

abbrev pub same_bytes : List ℕ → List ℕ → Bool
same_bytes [] [] = true
same_bytes [] (y ∷ ys) = false
same_bytes (x ∷ xs) [] = false
same_bytes (x ∷ xs) (y ∷ ys) = x == y && same_bytes xs ys

-- the number of a name in a list of names, from 1, and 0 where it is not declared
abbrev pub or_none : ℕ → ℕ
or_none zero = zero
or_none (suc n) = suc (suc n)

abbrev pub number_of : List (List ℕ) → List ℕ → ℕ
number_of [] x = 0
number_of (y ∷ ys) x = cond (same_bytes y x) 1 (or_none (number_of ys x))

abbrev pub Declared : List (List ℕ) → List ℕ → Type 0
Declared names x = 1 ≤ number_of names x

abbrev pub Undeclared : List (List ℕ) → List ℕ → Type 0
Undeclared names x = number_of names x ≡ 0

-- A check is the number of a refusal and what has to hold for it not to be given.
abbrev pub Check : Type 1
Check = record { number : ℕ; passes : Type 0 }

-- The checks of a line, in their order.
abbrev pub checks : Draft → Line → List Check
checks d (opens b) = []
checks d (names_field k n) = record { number = 103; passes = named k ≡ true } ∷ []
checks d (extends_by u v) = record { number = 104; passes = Extends (draft_field d) u v } ∷ []
checks d (declares_symbol s k) =
    record { number = 110; passes = k ≤ 3 }
    ∷ record { number = 108; passes = Undeclared (symbol_names d.symbols) s }
    ∷ record { number = 205; passes = length d.symbols < 12 }
    ∷ []
checks d (declares_state x s w) =
    record { number = 108; passes = Undeclared (state_names (draft_part d x).states) s }
    ∷ record { number = 105; passes = w < (draft_field d).size }
    ∷ record { number = 205; passes = length (draft_part d x).states < 12 }
    ∷ []
checks d (gives_rule x s t w cs) =
    let names = state_names (draft_part d x).states in
    let number = number_of (symbol_names d.symbols) s in
    record { number = 107; passes = Declared (symbol_names d.symbols) s }
    ∷ record { number = 109; passes = length cs ≡ slice_index (map (λ y. y.rank) d.symbols) (number - 1) }
    ∷ record { number = 107; passes = Declared names t }
    ∷ record { number = 107; passes = AllByRecursion (Declared names) cs }
    ∷ record { number = 105; passes = w < (draft_field d).size }
    ∷ record { number = 205; passes = length (draft_part d x).rules < 256 }
    ∷ []

abbrev pub AllPass : List Check → Type 0
AllPass [] = Unit {0}
AllPass (c ∷ cs) = c.passes × AllPass cs

-- the first check that does not pass has this number
abbrev pub FirstFailing : List Check → ℕ → Type 0
FirstFailing [] n = ⊥
FirstFailing (c ∷ cs) n = ((c.passes → ⊥) × (n ≡ c.number)) ⊎ (c.passes × FirstFailing cs n)

-- what a line adds
abbrev pub with_part : Draft → Side → Part → Draft
with_part d A p =
    record { place = d.place; kind = d.kind; count = d.count; steps = d.steps; symbols = d.symbols; a = p; b = d.b }
with_part d B p =
    record { place = d.place; kind = d.kind; count = d.count; steps = d.steps; symbols = d.symbols; a = d.a; b = p }

abbrev pub after : Draft → Line → Draft
after d (opens b) =
    record { place = inside b; kind = d.kind; count = d.count; steps = d.steps; symbols = d.symbols; a = d.a; b = d.b }
after d (names_field k n) =
    record { place = field_named; kind = k; count = n; steps = d.steps; symbols = d.symbols; a = d.a; b = d.b }
after d (extends_by u v) =
    record { place = d.place; kind = d.kind; count = d.count; steps = d.steps ++ ((u, v) ∷ []); symbols = d.symbols; a = d.a; b = d.b }
after d (declares_symbol s k) =
    record {
      place = d.place;
      kind = d.kind;
      count = d.count;
      steps = d.steps;
      symbols = d.symbols ++ (record { name = s; rank = k } ∷ []);
      a = d.a;
      b = d.b;
    }
after d (declares_state x s w) =
    let p = draft_part d x in
    with_part d x (record { states = p.states ++ (record { name = s; final = w } ∷ []); rules = p.rules })
after d (gives_rule x s t w cs) =
    let p = draft_part d x in
    let number = number_of (state_names p.states) in
    with_part d x
    (record {
      states = p.states;
      rules =
          p.rules
          ++ (record {
            symbol = number_of (symbol_names d.symbols) s;
            target = number t;
            weight = w;
            children = map number cs;
          }
          ∷ []);
    })

-- These lines, each in its form, in its place and passing its checks, lead from one draft to another.
abbrev pub Reads : Draft → List Line → Draft → Type 0
Reads d [] e = d ≡ e
Reads d (l ∷ ls) e = Formed l × MayFollow d d.place l × AllPass (checks d l) × Reads (after d l) ls e

abbrev pub declared : Draft → Record
declared d = record { kind = d.kind; steps = d.steps; symbols = d.symbols; a = d.a; b = d.b }

-- A text is accepted as a record.
pub record Accepted (text : List ℕ) (r : Record) : Type 0 where
  pub short : length text ≤ 65536
  pub lines : List Line
  pub draft : Draft
  pub written : text ≡ text_of_lines lines
  pub reads : Reads blank lines draft
  pub complete : Complete draft
  pub record_is : declared draft ≡ r

-- A line, as bytes, has the fault n: no line that may follow is written so (102), or the line that is written so fails a check.
abbrev pub LineFault : Draft → List ℕ → ℕ → Type 0
LineFault d bytes n =
    ((n ≡ 102) × ((l : Line) → Formed l → MayFollow d d.place l → written l ≢ bytes))
    ⊎ ((l : Line) × Formed l × MayFollow d d.place l × (written l ≡ bytes) × FirstFailing (checks d l) n)

-- What is left of the text has the fault n in its first line: a line that ends, one that does not, or none where one is wanted.
abbrev pub Stops : Draft → List ℕ → ℕ → Type 0
Stops d rest n =
    ((bytes : List ℕ) × (more : List ℕ) × (rest ≡ bytes ++ (10 ∷ more)) × Lacks 10 bytes × LineFault d bytes n)
    ⊎ (Lacks 10 rest × (n ≡ 102) × (rest ≡ [] → Complete d → ⊥))

-- A text has the fault n on the line k: the first faulty line decides.
abbrev pub Faulty : List ℕ → ℕ → ℕ → Type 0
Faulty text n k =
    ((65536 < length text) × (n ≡ 101) × (k ≡ 0))
    ⊎ ((length text ≤ 65536)
    × ((ls : List Line) × (d : Draft) × (rest : List ℕ)
    × (text ≡ text_of_lines ls ++ rest) × Reads blank ls d × (k ≡ suc (length ls)) × Stops d rest n))
