-- The lines of a valid record are read, one after another, as that record. Assumes nothing.
use Rattle.std.proofs.Common.{◌≡◌, ℕ, ◌-◌, ◌^◌, ◌<◌, ◌≤◌, true, List, [], ◌∷◌, ◌++◌, map, length, get_or, sym, refl, ap, ◌∙◌, subst, inl, inr, arith}
use Rattle.std.specs.List.{AllByRecursion}
use Rattle.std.proofs.lemmas.List.{append-nil, append_assoc, map-append, length-append, length-map}
use Rattle.std.proofs.ByRecursion.{All-get_or, All-map, All-weaker}
use Rattle.shapes.specs.Shapes.{kind_algebra}
use Rattle.words.specs.Words.{is_name}
use Rattle.equivalence.specs.Automata.{Rule}
use Rattle.format.specs.Lines.{Side, Line, A, B, Formed}
use Rattle.format.specs.Records.{State, Part, Record, field_of, AllExtend, symbol_names, state_names, Distinct, NumbersOneOf, ValidRule, ValidPart, ValidRecord, rule_line, lines_of}
use Rattle.format.specs.Reading.{Draft, blank, MayFollow, checks, AllPass, after, Reads, number_of, Declared, Undeclared}
use Rattle.format.proofs.Fields.{field_lawful, extends_middle, named_fits}
use Rattle.format.proofs.Numbering.{all_middle, undeclared_before, number_of_name, numbers_of_names, declared_name}
use Rattle.format.proofs.Stages.{with_parts, at_steps, at_symbols, at_states, at_rules, draft_at, step_line, symbol_line, state_line, rule_read, rule_named, rule_lines}

reads_append : (ls ms : List Line) (d e f : Draft) → Reads d ls e → Reads e ms f → Reads d (ls ++ ms) f
reads_append [] ms d e f p q = subst (λ x. Reads x ms f) (sym p) q
reads_append (l ∷ ls) ms d e f p q = (p.0, p.1, p.2, reads_append ls ms (after d l) e f p.3 q)

-- a line is read and leads from one draft to another
record Next (d : Draft) (l : Line) (e : Draft) : Type 0 where
  formed : Formed l
  follows : MayFollow d d.place l
  passes : AllPass (checks d l)
  leads : after d l ≡ e

-- the lines of a list, each of which is read where those before it were
module _ {X : Type 0} (at : List X → Draft) (line : X → Line) where
  abbrev EachNext : List X → Type 0
  EachNext all =
      (front : List X) (x : X) (back : List X) → all ≡ front ++ (x ∷ back) → Next (at front) (line x) (at (front ++ (x ∷ [])))

  reads_rest : (done rest : List X) → EachNext (done ++ rest) → Reads (at done) (map line rest) (at (done ++ rest))
  reads_rest done [] h = ap at (sym (append-nil done))
  reads_rest done (x ∷ rest) h =
      let n = h done x rest refl in
      let e = append_assoc done (x ∷ []) rest in
      let more = reads_rest (done ++ (x ∷ [])) rest (λ front y back q. h front y back (sym e ∙ q)) in (
        n.formed,
        n.follows,
        n.passes,
        subst (λ d. Reads d (map line rest) (at (done ++ (x ∷ rest)))) (sym n.leads)
            (subst (λ all. Reads (at (done ++ (x ∷ []))) (map line rest) (at all)) e more),
      )

  reads_list : (all : List X) → EachNext all → Reads (at []) (map line all) (at all)
  reads_list all h = reads_rest [] all h

-- what holds of a list, at one of its elements
module _ {X : Type 0} (all front : List X) (x : X) (back : List X) (e : all ≡ front ++ (x ∷ back)) where
  at_middle : (P : X → Type 0) → AllByRecursion P all → P x
  at_middle P h = all_middle P front x back (subst (AllByRecursion P) e h)

  front_less : length front < length all
  front_less = omega (arith, ap length e, length-append front (x ∷ back))

  front_lacks : (name : X → List ℕ) → Distinct (map name all) → Undeclared (map name front) (name x)
  front_lacks name d =
      undeclared_before (map name front) (name x) (map name back)
      (subst Distinct (ap (map name) e ∙ map-append name front (x ∷ back)) d)

-- names of numbers are names, declared, and have these numbers
module _ (names : List (List ℕ)) (formed : AllByRecursion (λ s. is_name s ≡ true) names) (distinct : Distinct names) where
  abbrev name_at : ℕ → List ℕ
  name_at k = get_or names (k - 1) []

  name_formed : (k : ℕ) → NumbersOneOf (length names) k → is_name (name_at k) ≡ true
  name_formed k h = All-get_or (λ s. is_name s ≡ true) names (k - 1) [] (omega arith) formed

  names_formed : (ks : List ℕ) → AllByRecursion (NumbersOneOf (length names)) ks → AllByRecursion (λ s. is_name s ≡ true) (map name_at ks)
  names_formed ks h = All-map _ name_at ks (All-weaker _ _ name_formed ks h)

  names_declared : (ks : List ℕ) → AllByRecursion (NumbersOneOf (length names)) ks → AllByRecursion (Declared names) (map name_at ks)
  names_declared ks h = All-map _ name_at ks (All-weaker _ _ (declared_name names distinct) ks h)

module _ (r : Record) (v : ValidRecord r) where
  abbrev count : ℕ
  count = length r.steps

  abbrev size : ℕ
  size = (field_of r).size

  abbrev syms : List (List ℕ)
  syms = symbol_names r.symbols

  syms_formed : AllByRecursion (λ s. is_name s ≡ true) syms
  syms_formed = All-map _ (λ s. s.name) r.symbols v.names

  fits : (w : ℕ) → w < size → w < 2 ^ 32
  fits w h = omega (arith, (field_lawful r v).most)

  reads_steps :
      Reads (draft_at (at_steps count r.kind [])) (map step_line r.steps) (draft_at (at_steps count r.kind r.steps))
  reads_steps =
      reads_list (λ ss. draft_at (at_steps count r.kind ss)) step_line r.steps λ front x back e.
      let h = extends_middle (kind_algebra r.kind) front x back (subst (AllExtend (kind_algebra r.kind)) e v.steps) in
      record {
        formed = (omega (arith, h.small, h.u_below), omega (arith, h.small, h.v_below));
        follows = inl (front_less r.steps front x back e, (x.0, x.1, refl));
        passes = (h, tt);
        leads = refl;
      }

  reads_symbols :
      Reads (draft_at (at_symbols count r.kind r.steps [])) (map symbol_line r.symbols)
      (draft_at (at_symbols count r.kind r.steps r.symbols))
  reads_symbols =
      reads_list (λ sy. draft_at (at_symbols count r.kind r.steps sy)) symbol_line r.symbols λ front x back e.
      let rank = at_middle r.symbols front x back e (λ s. s.rank ≤ 3) v.ranks in
      record {
        formed = (at_middle r.symbols front x back e (λ s. is_name s.name ≡ true) v.names, omega arith);
        follows = inl (x.name, x.rank, refl);
        passes = (
          rank,
          (
            front_lacks r.symbols front x back e (λ s. s.name) v.distinct,
            (omega (arith, front_less r.symbols front x back e, v.few), tt),
          ),
        );
        leads = refl;
      }

  abbrev at_side_states : List State → List State → Draft
  at_side_states sa sb = draft_at (at_states count r.kind r.steps r.symbols sa sb)

  -- one state of a side
  module _
      (p : Part)
      (f : ValidPart size r.symbols p)
      (front : List State) (s : State) (back : List State)
      (e : p.states ≡ front ++ (s ∷ back))
    where
      final_below : s.final < size
      final_below = at_middle p.states front s back e (λ y. y.final < size) f.finals

      state_formed : (is_name s.name ≡ true) × (s.final < 2 ^ 32)
      state_formed = (at_middle p.states front s back e (λ y. is_name y.name ≡ true) f.names, fits s.final final_below)

      state_passes : Undeclared (state_names front) s.name × ((s.final < size) × ((length front < 12) × Unit {0}))
      state_passes = (
        front_lacks p.states front s back e (λ y. y.name) f.distinct,
        (final_below, (omega (arith, front_less p.states front s back e, f.few), tt)),
      )

  reads_states_a : Reads (at_side_states [] []) (map (state_line A) r.a.states) (at_side_states r.a.states [])
  reads_states_a =
      reads_list (λ sa. at_side_states sa []) (state_line A) r.a.states λ front x back e.
      record {
        formed = state_formed r.a v.a front x back e;
        follows = inl (refl, (x.name, x.final, refl));
        passes = state_passes r.a v.a front x back e;
        leads = refl;
      }

  reads_states_b :
      Reads (at_side_states r.a.states []) (map (state_line B) r.b.states) (at_side_states r.a.states r.b.states)
  reads_states_b =
      reads_list (λ sb. at_side_states r.a.states sb) (state_line B) r.b.states λ front x back e.
      record {
        formed = state_formed r.b v.b front x back e;
        follows = inr (inl (v.a.some, (x.name, x.final, refl)));
        passes = state_passes r.b v.b front x back e;
        leads = refl;
      }

  -- the rules of a side
  module _ (x : Side) (p : Part) (f : ValidPart size r.symbols p) where
    abbrev names : List (List ℕ)
    names = state_names p.states

    states_formed : AllByRecursion (λ s. is_name s ≡ true) names
    states_formed = All-map _ (λ s. s.name) p.states f.names

    module _ (u : Rule ℕ) (h : ValidRule size r.symbols (length p.states) u) where
      symbol_numbers : NumbersOneOf (length syms) u.symbol
      symbol_numbers = rw length-map h.symbol

      target_numbers : NumbersOneOf (length names) u.target
      target_numbers = rw length-map h.target

      children_number : AllByRecursion (NumbersOneOf (length names)) u.children
      children_number = rw length-map h.children

      symbol_back : number_of syms (get_or syms (u.symbol - 1) []) ≡ u.symbol
      symbol_back = number_of_name syms v.distinct u.symbol symbol_numbers

      rule_formed : Formed (rule_named x syms names u)
      rule_formed = (
        name_formed syms syms_formed v.distinct u.symbol symbol_numbers,
        name_formed names states_formed f.distinct u.target target_numbers,
        fits u.weight h.weight,
        names_formed names states_formed f.distinct u.children children_number,
      )

      read_back :
          rule_read syms names (get_or syms (u.symbol - 1) []) (get_or names (u.target - 1) []) u.weight (map (λ (k : ℕ). get_or names (k - 1) []) u.children) ≡ u
      read_back =
          let target = number_of_name names f.distinct u.target target_numbers in
          let children = numbers_of_names names f.distinct u.children children_number in
          λ i. record { symbol = symbol_back i; target = target i; weight = u.weight; children = children i }

      rule_passes :
          (front : List (Rule ℕ))
          → length front < length p.rules
          → Declared syms (get_or syms (u.symbol - 1) [])
          × ((length (map (λ (k : ℕ). get_or names (k - 1) []) u.children)
          ≡ get_or (map (λ y. y.rank) r.symbols) (number_of syms (get_or syms (u.symbol - 1) []) - 1) 0)
          × (Declared names (get_or names (u.target - 1) [])
          × (AllByRecursion (Declared names) (map (λ (k : ℕ). get_or names (k - 1) []) u.children)
          × ((u.weight < size) × ((length front < 256) × Unit {0})))))
      rule_passes front less = (
        declared_name syms v.distinct u.symbol symbol_numbers,
        (
          length-map u.children _
              ∙ h.rank
              ∙ ap (λ k. get_or (map (λ y. y.rank) r.symbols) (k - 1) 0) (sym symbol_back),
          (
            declared_name names f.distinct u.target target_numbers,
            (
              names_declared names states_formed f.distinct u.children children_number,
              (h.weight, (omega (arith, f.few_rules), tt)),
            ),
          ),
        ),
      )

  abbrev at_a_rules : List (Rule ℕ) → Draft
  at_a_rules us =
      draft_at
      (at_rules count
      (with_parts r (record { states = r.a.states; rules = us }) (record { states = r.b.states; rules = [] })))

  abbrev at_b_rules : List (Rule ℕ) → Draft
  at_b_rules us = draft_at (at_rules count (with_parts r r.a (record { states = r.b.states; rules = us })))

  reads_rules_a : Reads (at_a_rules []) (map (rule_line r A) r.a.rules) (at_a_rules r.a.rules)
  reads_rules_a =
      reads_list at_a_rules (rule_line r A) r.a.rules λ front u back e.
      let h = at_middle r.a.rules front u back e _ v.a.rules in
      record {
        formed = rule_formed A r.a v.a u h;
        follows = inl (refl, (_, _, _, _, refl));
        passes = rule_passes A r.a v.a u h front (front_less r.a.rules front u back e);
        leads = ap (λ w. at_a_rules (front ++ (w ∷ []))) (read_back A r.a v.a u h);
      }

  reads_rules_b : Reads (at_b_rules []) (map (rule_line r B) r.b.rules) (at_b_rules r.b.rules)
  reads_rules_b =
      reads_list at_b_rules (rule_line r B) r.b.rules λ front u back e.
      let h = at_middle r.b.rules front u back e _ v.b.rules in
      record {
        formed = rule_formed B r.b v.b u h;
        follows = inr (_, _, _, _, refl);
        passes = rule_passes B r.b v.b u h front (front_less r.b.rules front u back e);
        leads = ap (λ w. at_b_rules (front ++ (w ∷ []))) (read_back B r.b v.b u h);
      }

  reads_rules : Reads (at_a_rules []) (rule_lines r) (draft_at (at_rules count r))
  reads_rules = reads_append _ _ _ _ _ reads_rules_a reads_rules_b

  reads_states :
      Reads (at_side_states [] []) (map (state_line A) r.a.states ++ map (state_line B) r.b.states) (at_side_states r.a.states r.b.states)
  reads_states = reads_append _ _ _ _ _ reads_states_a reads_states_b

  -- the line that opens a block stands before what is read there
  pub reads_record : Reads blank (lines_of r) (draft_at (at_rules count r))
  reads_record = (
    tt,
    refl,
    tt,
    (
      (named_fits r.kind v.kind, v.at_most_two),
      (r.kind, count, refl),
      (v.kind, tt),
      (
        tt,
        refl,
        tt,
        reads_append _ _ _ _ _ reads_steps (
          tt,
          inr (refl, refl),
          tt,
          reads_append _ _ _ _ _ reads_symbols
              (tt, inr (v.some, refl), tt, reads_append _ _ _ _ _ reads_states (tt, inr (inr (v.b.some, refl)), tt, reads_rules)),
        ),
      ),
    ),
  )
