-- The text of a draft is short: at most 556 lines of at most 78 bytes.
use Rattle.std.proofs.Common.{◌≡◌, ℕ, ◌-◌, ◌≤◌, true, List, [], ◌∷◌, ◌++◌, map, length, get_or, refl, inl, inr, arith}
use Rattle.std.specs.List.{AllByRecursion}
use Rattle.std.proofs.lemmas.Bool.{cases_lt}
use Rattle.std.proofs.lemmas.List.{length-append, length-map, get_or_past}
use Rattle.std.proofs.ByRecursion.{All-append, All-map, All-get_or, All-weaker}
use Rattle.words.specs.declared.name.Name.{Name}
use Rattle.words.specs.Spelled.{spelled}
use Rattle.words.proofs.Names.{spelled_length}
use Rattle.words.proofs.Numbers.{decimal_short}
use Rattle.shapes.specs.Shapes.{shape_kind, steps, named}
use Rattle.shapes.specs.declared.shape.Shape.{Shape}
use Rattle.shapes.specs.declared.shape.Shape.TheVariants.{Prime, Byte, PrimePair, BytePair, PrimeTower, ByteTower}
use Rattle.format.specs.Lines.{Block, Side, fields, symbols, states, rules, A, B, opens, names_field, extends_by, declares_symbol, declares_state, Fits}
use Rattle.format.specs.Lines as lines
use Rattle.format.specs.Records.{part, symbol_names, state_names, rule_line, lines_of, text_of}
use Rattle.format.proofs.Fields.{named_fits}
use Rattle.format.proofs.Lengths.{Short, Narrow, letter_short, lines_short, formed_narrow}
use Rattle.rules.specs.Rules.{rule_model}
use Rattle.rules.specs.declared.Rule.{Rule}
use Rattle.table.proofs.Mapped.{length_items}
use Rattle.table.specs.Items.{items_of}
use Rattle.tables.specs.Tables.{symbol_of, state_of, symbols_of}
use Rattle.tables.specs.declared.Symbol.{Symbol}
use Rattle.tables.specs.declared.State.{State}
use Rattle.drafts.specs.Drafts.{record_of, part_of, states_of}
use Rattle.drafts.specs.declared.Draft.{Draft}
use Rattle.drafts.specs.declared.Part.{Part}
use Rattle.writer.specs.Blocks.{symbol_block, state_block, rule_block}

shape_named : (s : Shape) → named (shape_kind s) ≡ true
shape_named (Prime f) = f.listed
shape_named (Byte f) = refl
shape_named (PrimePair f) = f.base.listed
shape_named (BytePair f) = refl
shape_named (PrimeTower f) = f.base.base.listed
shape_named (ByteTower f) = refl

few_steps : (s : Shape) → length (steps s) ≤ 2
few_steps (Prime f) = omega arith
few_steps (Byte f) = omega arith
few_steps (PrimePair f) = omega arith
few_steps (BytePair f) = omega arith
few_steps (PrimeTower f) = omega arith
few_steps (ByteTower f) = omega arith

steps_fit : (s : Shape) → AllByRecursion (λ p. Fits p.0 × Fits p.1) (steps s)
steps_fit (Prime f) = tt
steps_fit (Byte f) = tt
steps_fit (PrimePair f) = ((omega (arith, f.small, f.u_below), omega (arith, f.small, f.v_below)), tt)
steps_fit (BytePair f) = ((omega (arith, f.small, f.u_below), omega (arith, f.small, f.v_below)), tt)
steps_fit (PrimeTower f) = (
  (omega (arith, f.base.small, f.base.u_below), omega (arith, f.base.small, f.base.v_below)),
  ((omega (arith, f.small, f.u_below), omega (arith, f.small, f.v_below)), tt),
)
steps_fit (ByteTower f) = (
  (omega (arith, f.base.small, f.base.u_below), omega (arith, f.base.small, f.base.v_below)),
  ((omega (arith, f.small, f.u_below), omega (arith, f.small, f.v_below)), tt),
)

everywhere : {X : Type 0} (P : X → Type 0) → ((x : X) → P x) → (xs : List X) → AllByRecursion P xs
everywhere P h [] = tt
everywhere P h (x ∷ xs) = (h x, everywhere P h xs)

name_short : (n : Name) → Short (spelled n)
name_short n = omega (arith, spelled_length n, n.short)

-- a name that is looked up by a number is short, for there is none past the end
named_short : (names : List (List ℕ)) → AllByRecursion Short names → (k : ℕ) → Short (get_or names k [])
named_short names h k =
    elim (cases_lt k (length names)) [
      | inl l ↦ All-get_or Short names k [] l h
      | inr l ↦ rw (get_or_past names k [] l) (omega arith)
    ]

symbol_narrow : (s : Symbol) → Narrow (declares_symbol (spelled s.name) s.rank)
symbol_narrow s = ((name_short s.name, (decimal_short s.rank (omega (arith, s.small)), tt)), omega arith)

state_narrow : (x : Side) (s : State) → Narrow (declares_state x (spelled s.name) s.weight)
state_narrow x s = ((letter_short x, (name_short s.name, (decimal_short s.weight s.fits, tt))), omega arith)

states_narrow : (x : Side) (p : Part) → AllByRecursion Narrow (map (λ s. declares_state x s.name s.final) (states_of p))
states_narrow x p = All-map Narrow _ _ (All-map _ state_of _ (everywhere _ (state_narrow x) _))

module _ (d : Draft) where
  symbols_short : AllByRecursion Short (symbol_names (symbols_of d.symbols))
  symbols_short = All-map Short _ _ (All-map _ symbol_of _ (everywhere _ (λ (s : Symbol). name_short s.name) _))

  states_short : (p : Part) → AllByRecursion Short (state_names (states_of p))
  states_short p = All-map Short _ _ (All-map _ state_of _ (everywhere _ (λ (s : State). name_short s.name) _))

  rule_narrow : (x : Side) (p : Part) → part (record_of d) x ≡ part_of p → (r : Rule) → Narrow (rule_line (record_of d) x (rule_model r))
  rule_narrow x p e r =
      let states : AllByRecursion Short (state_names (part (record_of d) x).states) = rw e (states_short p) in
      let name = λ (k : ℕ). get_or (state_names (part (record_of d) x).states) (k - 1) [] in (
        (
          letter_short x,
          (
            named_short _ symbols_short (r.symbol - 1),
            (
              named_short _ states (r.target - 1),
              (decimal_short r.weight r.fits, All-map Short name _ (everywhere _ (λ k. named_short _ states (k - 1)) (items_of r.children))),
            ),
          ),
        ),
        simp length-map (omega (arith, length_items r.children, r.children.few)),
      )

  rules_narrow : (x : Side) (p : Part) → part (record_of d) x ≡ part_of p → AllByRecursion Narrow (map (rule_line (record_of d) x) (part_of p).rules)
  rules_narrow x p e = All-map Narrow _ _ (All-map _ rule_model _ (everywhere _ (rule_narrow x p e) _))

  heading : (b : Block) → Narrow (opens b)
  heading b = formed_narrow (opens b) tt tt

  field_narrow : AllByRecursion Narrow (opens fields ∷ names_field (shape_kind d.field) (length (steps d.field)) ∷ [])
  field_narrow = (heading fields, (formed_narrow (names_field _ _) (named_fits _ (shape_named d.field), few_steps d.field) tt, tt))

  steps_narrow : AllByRecursion Narrow (opens lines.steps ∷ map (λ s. extends_by s.0 s.1) (steps d.field))
  steps_narrow = (
    heading lines.steps,
    All-map Narrow (λ (s : ℕ × ℕ). extends_by s.0 s.1) _ (All-weaker _ _ (λ s h. formed_narrow (extends_by s.0 s.1) h tt) _ (steps_fit d.field)),
  )

  symbols_narrow : AllByRecursion Narrow (symbol_block (record_of d))
  symbols_narrow = (heading symbols, All-map Narrow _ _ (All-map _ symbol_of _ (everywhere _ symbol_narrow _)))

  both_states_narrow : AllByRecursion Narrow (state_block (record_of d))
  both_states_narrow = (heading states, All-append Narrow _ _ (states_narrow A d.parts.a) (states_narrow B d.parts.b))

  both_rules_narrow : AllByRecursion Narrow (rule_block (record_of d))
  both_rules_narrow = (heading rules, All-append Narrow _ _ (rules_narrow A d.parts.a refl) (rules_narrow B d.parts.b refl))

  all_narrow : AllByRecursion Narrow (lines_of (record_of d))
  all_narrow =
      let r = record_of d in
      let field = opens fields ∷ names_field (shape_kind d.field) (length (steps d.field)) ∷ [] in
      let extensions = opens lines.steps ∷ map (λ s. extends_by s.0 s.1) (steps d.field) in
      let last = All-append Narrow (state_block r) (rule_block r) both_states_narrow both_rules_narrow in
      let more = All-append Narrow (symbol_block r) (state_block r ++ rule_block r) symbols_narrow last in
      All-append Narrow field (extensions ++ (symbol_block r ++ (state_block r ++ rule_block r))) field_narrow
      (All-append Narrow extensions (symbol_block r ++ (state_block r ++ rule_block r)) steps_narrow more)

  lines_few : length (lines_of (record_of d)) ≤ 556
  lines_few =
      simp (length-append, length-map)
      (omega (arith, few_steps d.field, length_items d.symbols, d.symbols.few, length_items d.parts.a.states, d.parts.a.states.few, length_items d.parts.b.states, d.parts.b.states.few, length_items d.parts.a.rules, d.parts.a.rules.few, length_items d.parts.b.rules, d.parts.b.rules.few))

  pub text_short : length (text_of (record_of d)) ≤ 43368
  text_short = omega (arith, lines_short (lines_of (record_of d)) all_narrow, lines_few)
