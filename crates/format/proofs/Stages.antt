-- How far a text has been read: the draft and the lines of each stage, and what holds there. Every line that is read leads
-- from one stage to another. Assumes nothing.
use Rattle.std.proofs.Common.{◌≡◌, ℕ, ◌-◌, ◌<◌, ◌≤◌, true, List, [], ◌∷◌, ◌++◌, map, length, get_or, sym, refl, ap, ◌∙◌, subst, inl, inr, arith}
use Rattle.std.specs.List.{AllByRecursion}
use Rattle.std.proofs.lemmas.List.{append-nil, append_assoc, nil_from_length, map-append, map_push, length_push, length-map}
use Rattle.std.proofs.ByRecursion.{All-push}
use Rattle.field.specs.Algebra.{Algebra}
use Rattle.shapes.specs.Shapes.{kind_algebra, named}
use Rattle.shapes.specs.declared.shape.Kind.{Kind}
use Rattle.shapes.specs.declared.shape.Kind.TheVariants.{Bytes}
use Rattle.extension.specs.Extension.{extension, Extends}
use Rattle.words.specs.Words.{is_name}
use Rattle.equivalence.specs.Automata.{Rule}
use Rattle.format.specs.Lines.{Side, Line, fields, steps, symbols, states, rules, A, B, opens, names_field, extends_by, declares_symbol, declares_state, gives_rule, Formed}
use Rattle.format.specs.Records.{Symbol, State, Part, Record, tower, field_of, symbol_names, state_names, Distinct, NumbersOneOf, AllExtend, ValidRule, ValidPart, ValidRecord, rule_line, lines_of}
use Rattle.format.specs.Reading.{Place, inside, field_named, Draft, blank, MayFollow, checks, AllPass, after, Reads, declared, number_of, Declared, Undeclared}
use Rattle.format.proofs.Numbering.{distinct_push, name_of_number, names_of_numbers, numbers_one, all_numbers}

-- a record that has no rules yet
abbrev pub bare : Kind → List (ℕ × ℕ) → List Symbol → List State → List State → Record
bare k ss sy sa sb =
    record { kind = k; steps = ss; symbols = sy; a = record { states = sa; rules = [] }; b = record { states = sb; rules = [] } }

-- a record with other sides
abbrev pub with_parts : Record → Part → Part → Record
with_parts r p q = record { kind = r.kind; steps = r.steps; symbols = r.symbols; a = p; b = q }

-- the place with what is declared there; the first number is the count of pair steps announced
pub data Stage : Type 0 where
  at_start : Stage
  at_fields : Stage
  at_named : ℕ → Kind → Stage
  at_steps : ℕ → Kind → List (ℕ × ℕ) → Stage
  at_symbols : ℕ → Kind → List (ℕ × ℕ) → List Symbol → Stage
  at_states : ℕ → Kind → List (ℕ × ℕ) → List Symbol → List State → List State → Stage
  at_rules : ℕ → Record → Stage

abbrev pub drafted : Place → ℕ → Record → Draft
drafted p n r = record { place = p; kind = r.kind; count = n; steps = r.steps; symbols = r.symbols; a = r.a; b = r.b }

abbrev pub draft_at : Stage → Draft
draft_at at_start = blank
draft_at at_fields = drafted (inside fields) 0 (bare Bytes [] [] [] [])
draft_at (at_named n k) = drafted field_named n (bare k [] [] [] [])
draft_at (at_steps n k ss) = drafted (inside steps) n (bare k ss [] [] [])
draft_at (at_symbols n k ss sy) = drafted (inside symbols) n (bare k ss sy [] [])
draft_at (at_states n k ss sy sa sb) = drafted (inside states) n (bare k ss sy sa sb)
draft_at (at_rules n r) = drafted (inside rules) n r

abbrev pub step_line : ℕ × ℕ → Line
step_line s = extends_by s.0 s.1

abbrev pub symbol_line : Symbol → Line
symbol_line s = declares_symbol s.name s.rank

abbrev pub state_line : Side → State → Line
state_line x s = declares_state x s.name s.final

-- the lines of the field, of the steps too, and so on, with what comes after them
abbrev pub field_lines : ℕ → Kind → List Line → List Line
field_lines n k more = (opens fields ∷ names_field k n ∷ []) ++ more

abbrev pub step_lines : List (ℕ × ℕ) → List Line
step_lines ss = opens steps ∷ map step_line ss

abbrev pub symbol_lines : List Symbol → List Line
symbol_lines sy = opens symbols ∷ map symbol_line sy

abbrev pub states_lines : List State → List State → List Line
states_lines sa sb = opens states ∷ (map (state_line A) sa ++ map (state_line B) sb)

abbrev pub rule_lines : Record → List Line
rule_lines r = map (rule_line r A) r.a.rules ++ map (rule_line r B) r.b.rules

-- the lines of a record's text, before those that give its rules
abbrev pub lines_before_rules : ℕ → Record → List Line → List Line
lines_before_rules n r more =
    field_lines n r.kind
    (step_lines r.steps
    ++ (symbol_lines r.symbols ++ (states_lines r.a.states r.b.states ++ (opens rules ∷ more))))

abbrev pub lines_to : Stage → List Line
lines_to at_start = []
lines_to at_fields = opens fields ∷ []
lines_to (at_named n k) = field_lines n k []
lines_to (at_steps n k ss) = field_lines n k (step_lines ss)
lines_to (at_symbols n k ss sy) = field_lines n k (step_lines ss ++ symbol_lines sy)
lines_to (at_states n k ss sy sa sb) = field_lines n k (step_lines ss ++ (symbol_lines sy ++ states_lines sa sb))
lines_to (at_rules n r) = lines_before_rules n r (rule_lines r)

pub record FineSteps (n : ℕ) (k : Kind) (ss : List (ℕ × ℕ)) : Type 0 where
  pub kind : named k ≡ true
  pub at_most_two : n ≤ 2
  pub extend : AllExtend (kind_algebra k) ss

pub record FineSymbols (sy : List Symbol) : Type 0 where
  pub few : length sy ≤ 12
  pub names : AllByRecursion (λ s. is_name s.name ≡ true) sy
  pub distinct : Distinct (symbol_names sy)
  pub ranks : AllByRecursion (λ s. s.rank ≤ 3) sy

pub record FineStates (q : ℕ) (ss : List State) : Type 0 where
  pub few : length ss ≤ 12
  pub names : AllByRecursion (λ s. is_name s.name ≡ true) ss
  pub distinct : Distinct (state_names ss)
  pub finals : AllByRecursion (λ s. s.final < q) ss

-- what holds at a stage
abbrev pub Fine : Stage → Type 0
Fine at_start = Unit {0}
Fine at_fields = Unit {0}
Fine (at_named n k) = FineSteps n k []
Fine (at_steps n k ss) = FineSteps n k ss
Fine (at_symbols n k ss sy) = FineSteps n k ss × (length ss ≡ n) × FineSymbols sy
Fine (at_states n k ss sy sa sb) =
    FineSteps n k ss × (length ss ≡ n) × FineSymbols sy × (1 ≤ length sy)
    × FineStates (tower (kind_algebra k) ss).size sa
    × FineStates (tower (kind_algebra k) ss).size sb
    × (1 ≤ length sb → 1 ≤ length sa)
Fine (at_rules n r) = ValidRecord r × (length r.steps ≡ n)

-- the stage after one more line
pub record Onward (s : Stage) (l : Line) : Type 0 where
  pub next : Stage
  pub fine : Fine next
  pub draft : draft_at next ≡ after (draft_at s) l
  pub lines : lines_to next ≡ lines_to s ++ (l ∷ [])

-- one more line at the end of lines in front of others
pushed : (front more new : List Line) (l : Line) → new ≡ more ++ (l ∷ []) → front ++ new ≡ (front ++ more) ++ (l ∷ [])
pushed front more new l e = ap (λ ls. front ++ ls) e ∙ sym (append_assoc front more (l ∷ []))

-- one more of the first of two lists, where the second is empty
push_first :
    {X : Type 0} (f g : X → Line) (xs ys : List X) (x : X)
    → ys ≡ []
    → map f (xs ++ (x ∷ [])) ++ map g ys ≡ (map f xs ++ map g ys) ++ (f x ∷ [])
push_first f g xs ys x none =
    rw none (append-nil (map f (xs ++ (x ∷ []))) ∙ map_push f xs x ∙ ap (λ ls. ls ++ (f x ∷ [])) (sym (append-nil (map f xs))))

push_second :
    {X : Type 0} (f g : X → Line) (xs ys : List X) (y : X)
    → map f xs ++ map g (ys ++ (y ∷ [])) ≡ (map f xs ++ map g ys) ++ (g y ∷ [])
push_second f g xs ys y = pushed (map f xs) _ _ _ (map_push g ys y)

pushed_states :
    (n : ℕ) (k : Kind) (ss : List (ℕ × ℕ)) (sy : List Symbol) (more new : List Line) (l : Line)
    → new ≡ more ++ (l ∷ [])
    → field_lines n k (step_lines ss ++ (symbol_lines sy ++ new)) ≡ field_lines n k (step_lines ss ++ (symbol_lines sy ++ more)) ++ (l ∷ [])
pushed_states n k ss sy more new l e =
    ap (field_lines n k) (pushed (step_lines ss) _ _ l (pushed (symbol_lines sy) more new l e))

pushed_rules :
    (n : ℕ) (r : Record) (more new : List Line) (l : Line)
    → new ≡ more ++ (l ∷ [])
    → lines_before_rules n r new ≡ lines_before_rules n r more ++ (l ∷ [])
pushed_rules n r more new l e =
    pushed_states n r.kind r.steps r.symbols _ _ l
    (pushed (states_lines r.a.states r.b.states) _ _ l (ap (λ ls. opens rules ∷ ls) e))

abbrev Goes : Stage → Line → Type 0
Goes s l = Fine s → Formed l → AllPass (checks (draft_at s) l) → Onward s l

opens_fields : Goes at_start (opens fields)
opens_fields f o p = record { next = at_fields; fine = tt; draft = refl; lines = refl }

field_is_named : (k : Kind) (n : ℕ) → Goes at_fields (names_field k n)
field_is_named k n f o p =
    record { next = at_named n k; fine = record { kind = p.0; at_most_two = o.1; extend = tt }; draft = refl; lines = refl }

all_extend_push :
    (F : Algebra) (ss : List (ℕ × ℕ)) (u v : ℕ) → AllExtend F ss → Extends (tower F ss) u v → AllExtend F (ss ++ ((u, v) ∷ []))
all_extend_push F [] u v h e = (e, tt)
all_extend_push F (s ∷ ss) u v h e = (h.0, all_extend_push (extension F s.0 s.1) ss u v h.1 e)

no_symbols : FineSymbols []
no_symbols = record { few = omega arith; names = tt; distinct = tt; ranks = tt }

symbol_push :
    (sy : List Symbol) (s : List ℕ) (m : ℕ)
    → is_name s ≡ true
    → Undeclared (symbol_names sy) s
    → m ≤ 3
    → length sy < 12
    → FineSymbols sy
    → FineSymbols (sy ++ (record { name = s; rank = m } ∷ []))
symbol_push sy s m name new rank less f =
    let x : Symbol = record { name = s; rank = m } in
    record {
      few = omega (arith, length_push sy x);
      names = All-push _ sy x f.names name;
      distinct = rw map-append (distinct_push (symbol_names sy) s f.distinct new);
      ranks = All-push _ sy x f.ranks rank;
    }

no_states : (q : ℕ) → FineStates q []
no_states q = record { few = omega arith; names = tt; distinct = tt; finals = tt }

state_push :
    (q : ℕ) (ss : List State) (s : List ℕ) (w : ℕ)
    → is_name s ≡ true
    → Undeclared (state_names ss) s
    → w < q
    → length ss < 12
    → FineStates q ss
    → FineStates q (ss ++ (record { name = s; final = w } ∷ []))
state_push q ss s w name new below less f =
    let x : State = record { name = s; final = w } in
    record {
      few = omega (arith, length_push ss x);
      names = All-push _ ss x f.names name;
      distinct = rw map-append (distinct_push (state_names ss) s f.distinct new);
      finals = All-push _ ss x f.finals below;
    }

no_rules :
    (q : ℕ) (sy : List Symbol) (ss : List State)
    → 1 ≤ length ss
    → FineStates q ss
    → ValidPart q sy (record { states = ss; rules = [] })
no_rules q sy ss some f =
    record {
      some = some;
      few = f.few;
      names = f.names;
      distinct = f.distinct;
      finals = f.finals;
      few_rules = omega arith;
      rules = tt;
    }

module _ (n : ℕ) (k : Kind) where
  opens_steps : Goes (at_named n k) (opens steps)
  opens_steps f o p = record { next = at_steps n k []; fine = f; draft = refl; lines = refl }

  module _ (ss : List (ℕ × ℕ)) where
    extends : (u v : ℕ) → Goes (at_steps n k ss) (extends_by u v)
    extends u v f o p =
        record {
          next = at_steps n k (ss ++ ((u, v) ∷ []));
          fine =
              record { kind = f.kind; at_most_two = f.at_most_two; extend = all_extend_push _ ss u v f.extend p.0 };
          draft = refl;
          lines = simp (map-append, append_assoc);
        }

    opens_symbols : length ss ≡ n → Goes (at_steps n k ss) (opens symbols)
    opens_symbols e f o p =
        record { next = at_symbols n k ss []; fine = (f, e, no_symbols); draft = refl; lines = simp append_assoc }

    module _ (sy : List Symbol) where
      symbol_is_declared : (s : List ℕ) (m : ℕ) → Goes (at_symbols n k ss sy) (declares_symbol s m)
      symbol_is_declared s m f o p =
          record {
            next = at_symbols n k ss (sy ++ (record { name = s; rank = m } ∷ []));
            fine = (f.0, f.1, symbol_push sy s m o.0 p.1.0 p.0 p.1.1.0 f.2);
            draft = refl;
            lines = simp (map-append, append_assoc);
          }

      opens_states : 1 ≤ length sy → Goes (at_symbols n k ss sy) (opens states)
      opens_states some f o p =
          record {
            next = at_states n k ss sy [] [];
            fine = (f.0, f.1, f.2, some, no_states _, no_states _, λ h. absurd (omega arith));
            draft = refl;
            lines = simp append_assoc;
          }

      module _ (sa : List State) where
        state_of_a : (s : List ℕ) (w : ℕ) → Goes (at_states n k ss sy sa []) (declares_state A s w)
        state_of_a s w f o p =
            let x : State = record { name = s; final = w } in
            let more = state_push _ sa s w o.0 p.0 p.1.0 p.1.1.0 f.4 in
            record {
              next = at_states n k ss sy (sa ++ (x ∷ [])) [];
              fine = (f.0, f.1, f.2, f.3, more, f.5, λ h. omega (arith, length_push sa x));
              draft = refl;
              lines =
                  pushed_states n k ss sy _ _ _
                  (ap (λ ls. opens states ∷ ls) (push_first (state_line A) (state_line B) sa [] x refl));
            }

        module _ (sb : List State) where
          state_of_b : (s : List ℕ) (w : ℕ) → 1 ≤ length sa → Goes (at_states n k ss sy sa sb) (declares_state B s w)
          state_of_b s w some f o p =
              let x : State = record { name = s; final = w } in
              let more = state_push _ sb s w o.0 p.0 p.1.0 p.1.1.0 f.5 in
              record {
                next = at_states n k ss sy sa (sb ++ (x ∷ []));
                fine = (f.0, f.1, f.2, f.3, f.4, more, λ h. some);
                draft = refl;
                lines =
                    pushed_states n k ss sy _ _ _
                    (ap (λ ls. opens states ∷ ls) (push_second (state_line A) (state_line B) sa sb x));
              }

          opens_rules : 1 ≤ length sb → Goes (at_states n k ss sy sa sb) (opens rules)
          opens_rules some f o p =
              record {
                next = at_rules n (bare k ss sy sa sb);
                fine = (
                  record {
                    kind = f.0.kind;
                    at_most_two = omega (arith, f.0.at_most_two, f.1);
                    steps = f.0.extend;
                    some = f.3;
                    few = f.2.few;
                    names = f.2.names;
                    distinct = f.2.distinct;
                    ranks = f.2.ranks;
                    a = no_rules _ sy sa (f.6 some) f.4;
                    b = no_rules _ sy sb some f.5;
                  },
                  f.1,
                );
                draft = refl;
                lines = simp append_assoc;
              }

valid_with :
    (r : Record) (p q : Part)
    → ValidRecord r
    → ValidPart (field_of r).size r.symbols p
    → ValidPart (field_of r).size r.symbols q
    → ValidRecord (with_parts r p q)
valid_with r p q v f g =
    record {
      kind = v.kind;
      at_most_two = v.at_most_two;
      steps = v.steps;
      some = v.some;
      few = v.few;
      names = v.names;
      distinct = v.distinct;
      ranks = v.ranks;
      a = f;
      b = g;
    }

-- the rule that a line gives, and the line that a rule has, by the names of symbols and states
abbrev pub rule_read : List (List ℕ) → List (List ℕ) → List ℕ → List ℕ → ℕ → List (List ℕ) → Rule ℕ
rule_read syms names s t w cs =
    record { symbol = number_of syms s; target = number_of names t; weight = w; children = map (number_of names) cs }

abbrev pub rule_named : Side → List (List ℕ) → List (List ℕ) → Rule ℕ → Line
rule_named x syms names u =
    let name = λ (k : ℕ). get_or names (k - 1) [] in
    gives_rule x (get_or syms (u.symbol - 1) []) (name u.target) u.weight (map name u.children)

named_read :
    (x : Side) (syms names : List (List ℕ)) (s t : List ℕ) (w : ℕ) (cs : List (List ℕ))
    → Declared syms s
    → Declared names t
    → AllByRecursion (Declared names) cs
    → rule_named x syms names (rule_read syms names s t w cs) ≡ gives_rule x s t w cs
named_read x syms names s t w cs hs ht hc =
    let es = name_of_number syms s hs in
    let et = name_of_number names t ht in
    let ec = names_of_numbers names cs hc in
    λ i. gives_rule x (es i) (et i) w (ec i)

abbrev pub one_more : Part → Rule ℕ → Part
one_more p u = record { states = p.states; rules = p.rules ++ (u ∷ []) }

part_push :
    (q : ℕ) (sy : List Symbol) (p : Part) (u : Rule ℕ)
    → ValidPart q sy p
    → length p.rules < 256
    → ValidRule q sy (length p.states) u
    → ValidPart q sy (one_more p u)
part_push q sy p u v less h =
    record {
      some = v.some;
      few = v.few;
      names = v.names;
      distinct = v.distinct;
      finals = v.finals;
      few_rules = omega (arith, length_push p.rules u);
      rules = All-push _ p.rules u v.rules h;
    }

module _ (sy : List Symbol) (ss : List State) (s t : List ℕ) (w : ℕ) (cs : List (List ℕ)) where
  abbrev the_rule : Rule ℕ
  the_rule = rule_read (symbol_names sy) (state_names ss) s t w cs

  valid_read :
      (q : ℕ)
      → Declared (symbol_names sy) s
      → length cs ≡ get_or (map (λ y. y.rank) sy) (number_of (symbol_names sy) s - 1) 0
      → Declared (state_names ss) t
      → AllByRecursion (Declared (state_names ss)) cs
      → w < q
      → ValidRule q sy (length ss) the_rule
  valid_read q hs er ht hc hw =
      let ls = length-map sy (λ y. y.name) in
      let lt = length-map ss (λ y. y.name) in
      record {
        symbol = subst (λ n. NumbersOneOf n the_rule.symbol) ls (numbers_one (symbol_names sy) s hs);
        rank = length-map cs (number_of (state_names ss)) ∙ er;
        target = subst (λ n. NumbersOneOf n the_rule.target) lt (numbers_one (state_names ss) t ht);
        children = subst (λ n. AllByRecursion (NumbersOneOf n) the_rule.children) lt (all_numbers (state_names ss) cs hc);
        weight = hw;
      }

module _ (n : ℕ) (r : Record) (s t : List ℕ) (w : ℕ) (cs : List (List ℕ)) where
  rule_of_a : r.b.rules ≡ [] → Goes (at_rules n r) (gives_rule A s t w cs)
  rule_of_a none f o p =
      let u = the_rule r.symbols r.a.states s t w cs in
      let rest = p.1.1 in
      let line = named_read A (symbol_names r.symbols) (state_names r.a.states) s t w cs p.0 rest.0 rest.1.0 in
      record {
        next = at_rules n (with_parts r (one_more r.a u) r.b);
        fine = (
          valid_with r _ _ f.0
              (part_push _ r.symbols r.a u f.0.a rest.1.1.1.0
              (valid_read r.symbols r.a.states s t w cs _ p.0 p.1.0 rest.0 rest.1.0 rest.1.1.0))
              f.0.b,
          f.1,
        );
        draft = refl;
        lines =
            pushed_rules n r _ _ _
            (push_first (rule_line r A) (rule_line r B) r.a.rules r.b.rules u none ∙ ap (λ l. rule_lines r ++ (l ∷ [])) line);
      }

  rule_of_b : Goes (at_rules n r) (gives_rule B s t w cs)
  rule_of_b f o p =
      let u = the_rule r.symbols r.b.states s t w cs in
      let rest = p.1.1 in
      let line = named_read B (symbol_names r.symbols) (state_names r.b.states) s t w cs p.0 rest.0 rest.1.0 in
      record {
        next = at_rules n (with_parts r r.a (one_more r.b u));
        fine = (
          valid_with r _ _ f.0 f.0.a
              (part_push _ r.symbols r.b u f.0.b rest.1.1.1.0
              (valid_read r.symbols r.b.states s t w cs _ p.0 p.1.0 rest.0 rest.1.0 rest.1.1.0)),
          f.1,
        );
        draft = refl;
        lines =
            pushed_rules n r _ _ _
            (push_second (rule_line r A) (rule_line r B) r.a.rules r.b.rules u ∙ ap (λ l. rule_lines r ++ (l ∷ [])) line);
      }

-- the line that may follow leads on
follows : (s : Stage) (l : Line) → MayFollow (draft_at s) (draft_at s).place l → Goes s l
follows at_start l m = subst (Goes at_start) (sym m) opens_fields
follows at_fields l m = subst (Goes at_fields) (sym m.2) (field_is_named m.0 m.1)
follows (at_named n k) l m = subst (Goes (at_named n k)) (sym m) (opens_steps n k)
follows (at_steps n k ss) l (inl m) = subst (Goes (at_steps n k ss)) (sym m.1.2) (extends n k ss m.1.0 m.1.1)
follows (at_steps n k ss) l (inr m) = subst (Goes (at_steps n k ss)) (sym m.1) (opens_symbols n k ss m.0)
follows (at_symbols n k ss sy) l (inl m) =
    subst (Goes (at_symbols n k ss sy)) (sym m.2) (symbol_is_declared n k ss sy m.0 m.1)
follows (at_symbols n k ss sy) l (inr m) = subst (Goes (at_symbols n k ss sy)) (sym m.1) (opens_states n k ss sy m.0)
follows (at_states n k ss sy sa []) l (inl m) =
    subst (Goes (at_states n k ss sy sa [])) (sym m.1.2) (state_of_a n k ss sy sa m.1.0 m.1.1)
follows (at_states n k ss sy sa (x ∷ sb)) l (inl m) = absurd (omega (arith, m.0))
follows (at_states n k ss sy sa sb) l (inr (inl m)) =
    subst (Goes (at_states n k ss sy sa sb)) (sym m.1.2) (state_of_b n k ss sy sa sb m.1.0 m.1.1 m.0)
follows (at_states n k ss sy sa sb) l (inr (inr m)) =
    subst (Goes (at_states n k ss sy sa sb)) (sym m.1) (opens_rules n k ss sy sa sb m.0)
follows (at_rules n r) l (inl m) =
    let (s, t, w, cs, e) = m.1 in
    subst (Goes (at_rules n r)) (sym e) (rule_of_a n r s t w cs (nil_from_length r.b.rules m.0))
follows (at_rules n r) l (inr m) =
    let (s, t, w, cs, e) = m in
    subst (Goes (at_rules n r)) (sym e) (rule_of_b n r s t w cs)

-- the stage that lines lead to
pub reached :
    (s : Stage)
    → Fine s
    → (ls : List Line) (d : Draft)
    → Reads (draft_at s) ls d
    → (t : Stage) × Fine t × (draft_at t ≡ d) × (lines_to t ≡ lines_to s ++ ls)
reached s f [] d r = (s, f, r, sym (append-nil (lines_to s)))
reached s f (l ∷ ls) d r =
    let o = follows s l r.1 f r.0 r.2 in
    let (t, g, e, lines) = reached o.next o.fine ls d (subst (λ x. Reads x ls d) (sym o.draft) r.3) in
    (t, g, e, lines ∙ ap (λ ks. ks ++ ls) o.lines ∙ append_assoc (lines_to s) (l ∷ []) ls)

never : {X : Type 0} → ◌≡◌ {A = ℕ} 0 1 → X
never e = absurd (omega arith)

-- where the text may end, the lines are those of the record
pub finished :
    (s : Stage)
    → Fine s
    → (draft_at s).place ≡ inside rules
    → ValidRecord (declared (draft_at s)) × (lines_of (declared (draft_at s)) ≡ lines_to s)
finished at_start f e = never (cc)
finished at_fields f e = never (cc)
finished (at_named n k) f e = never (cc)
finished (at_steps n k ss) f e = never (cc)
finished (at_symbols n k ss sy) f e = never (cc)
finished (at_states n k ss sy sa sb) f e = never (cc)
finished (at_rules n r) f e = (f.0, ap (λ m. lines_before_rules m r (rule_lines r)) f.1)
