-- Which texts no line is written as.
use Rattle.std.proofs.Common.{◌≡◌, ℕ, ◌<◌, ◌≤◌, true, false, List, [], ◌∷◌, length, codes, decimal, sym, refl, ap, ◌∙◌, subst, arith}
use Rattle.std.specs.List.{AllByRecursion}
use Rattle.std.proofs.lemmas.Bool.{both_ways}
use Rattle.words.specs.Words.{is_name, spaced, Lacks, Number}
use Rattle.shapes.specs.declared.shape.Kind.{Kind}
use Rattle.shapes.specs.declared.shape.Kind.TheVariants.{Residues, Bytes}
use Rattle.format.specs.Lines.{Line, Side, A, B, opens, names_field, extends_by, declares_symbol, declares_state, gives_rule, letter, kind_fields, kind_fits, line_fields, written, Fits, Formed}
use Rattle.lines.specs.Recognized.{Absent}
use Rattle.lines.specs.Fields.{OpensNone, NoLetter, Ends}
use Rattle.format.proofs.Unique.{heading_names}
use Rattle.lines.proofs.Pieces.{pieces, pieces_one, pieces_some, pieces_front, pieces_spaced, piece_alone, spaced_pieces, letter_field, line_long, line_pieces}

-- the pieces of a text that a line is written as are the line's fields
fields_are : (text : List ℕ) (ps : List (List ℕ)) → pieces text ≡ ps → (m : Line) → Formed m → written m ≡ text → line_fields m ≡ ps
fields_are text ps e m h w = sym (line_pieces m h) ∙ ap pieces w ∙ e

pub one_absent : (text : List ℕ) → Lacks 32 text → Absent text
one_absent text lacks m h w = omega (arith, line_long m, ap length (fields_are text _ (pieces_one text lacks) m h w))

module _ (f g : List ℕ) (lacks : AllByRecursion (Lacks 32) (f ∷ g ∷ [])) (none : OpensNone (spaced (f ∷ g ∷ []))) where
  pair_fields : (m : Line) → Formed m → written m ≡ spaced (f ∷ g ∷ []) → line_fields m ≡ f ∷ g ∷ []
  pair_fields = fields_are _ _ (pieces_spaced (f ∷ g ∷ []) (omega arith) lacks)

  pub pair_absent : ((u v : ℕ) → Number f u → Number g v → ⊥) → (is_name f ≡ true → (k : ℕ) → Number g k → ⊥) → Absent (spaced (f ∷ g ∷ []))
  pair_absent step symbol (opens b) h w = none b w
  pair_absent step symbol (names_field (Residues p) n) h w = omega (arith, ap length (pair_fields (names_field (Residues p) n) h w))
  pair_absent step symbol (names_field Bytes n) h w = omega (arith, ap length (pair_fields (names_field Bytes n) h w))
  pair_absent step symbol (extends_by u v) h w =
      let e = pair_fields (extends_by u v) h w in
      step u v (h.0, cc) (h.1, cc)
  pair_absent step symbol (declares_symbol s k) h w =
      let e = pair_fields (declares_symbol s k) h w in
      let named = h.0 in
      symbol (cc) k (h.1, cc)
  pair_absent step symbol (declares_state d s k) h w = omega (arith, ap length (pair_fields (declares_state d s k) h w))
  pair_absent step symbol (gives_rule d s t k cs) h w = omega (arith, ap length (pair_fields (gives_rule d s t k cs) h w))

module _ (f g t : List ℕ) (lacks : AllByRecursion (Lacks 32) (f ∷ g ∷ [])) (free : NoLetter f) (none : OpensNone (spaced (f ∷ g ∷ t ∷ []))) where
  three_fields : (m : Line) → Formed m → written m ≡ spaced (f ∷ g ∷ t ∷ []) → line_fields m ≡ f ∷ g ∷ pieces t
  three_fields = fields_are _ _ (pieces_front (f ∷ g ∷ []) t lacks)

  pub field_absent : ((k : Kind) (n : ℕ) → kind_fits k → kind_fields k ≡ f ∷ g ∷ [] → Number t n → n ≤ 2 → ⊥) → Absent (spaced (f ∷ g ∷ t ∷ []))
  field_absent field (opens b) h w = none b w
  field_absent field (names_field (Residues p) n) h w =
      let e = three_fields (names_field (Residues p) n) h w in
      field (Residues p) n h.0 (cc) (omega arith, piece_alone t (decimal n) (cc)) h.1
  field_absent field (names_field Bytes n) h w =
      let e = three_fields (names_field Bytes n) h w in
      field Bytes n tt (cc) (omega arith, piece_alone t (decimal n) (cc)) h.1
  field_absent field (extends_by u v) h w = omega (arith, pieces_some t, ap length (three_fields (extends_by u v) h w))
  field_absent field (declares_symbol s k) h w = omega (arith, pieces_some t, ap length (three_fields (declares_symbol s k) h w))
  field_absent field (declares_state d s k) h w = let e = three_fields (declares_state d s k) h w in free d (cc)
  field_absent field (gives_rule d s u k cs) h w = let e = three_fields (gives_rule d s u k cs) h w in free d (cc)

letter_no_name : (d : Side) → is_name (letter d) ≡ false
letter_no_name A = refl
letter_no_name B = refl

module _ (text s : List ℕ) (d : Side) (ps : List (List ℕ)) (e : pieces text ≡ letter d ∷ s ∷ ps) (some : 0 < length ps) where
  other : (f : List ℕ) → is_name f ≡ true → f ≡ letter d → ⊥
  other f h i = both_ways (is_name (letter d)) (letter_no_name d) (subst (λ x. is_name x ≡ true) i h)

  sided_absent : (is_name s ≡ true → (w : ℕ) → Fits w → ps ≡ decimal w ∷ [] → ⊥) → (is_name s ≡ true → (t : List ℕ) (w : ℕ) (cs : List (List ℕ)) → is_name t ≡ true → Fits w → AllByRecursion (λ c. is_name c ≡ true) cs → ps ≡ t ∷ decimal w ∷ cs → ⊥) → Absent text
  sided_absent state rule (opens b) h w =
      let i = fields_are text _ e (opens b) h w in
      other (letter d) (subst (AllByRecursion (λ c. is_name c ≡ true)) i (heading_names b)).0 refl
  sided_absent state rule (names_field (Residues p) n) h w =
      let i = fields_are text _ e (names_field (Residues p) n) h w in
      other (codes "prime") refl (cc)
  sided_absent state rule (names_field Bytes n) h w =
      let i = fields_are text _ e (names_field Bytes n) h w in
      other (codes "byte") refl (cc)
  sided_absent state rule (extends_by u v) h w =
      omega (arith, ap length (fields_are text _ e (extends_by u v) h w))
  sided_absent state rule (declares_symbol x k) h w =
      omega (arith, ap length (fields_are text _ e (declares_symbol x k) h w))
  sided_absent state rule (declares_state b x k) h w =
      let i = fields_are text _ e (declares_state b x k) h w in
      let named = h.0 in
      state (cc) k h.1 (cc)
  sided_absent state rule (gives_rule b x t k cs) h w =
      let i = fields_are text _ e (gives_rule b x t k cs) h w in
      let named = h.0 in
      rule (cc) t k cs h.1 h.2 h.3 (cc)

module _ (d : Side) (s t : List ℕ) (lacks : AllByRecursion (Lacks 32) (s ∷ t ∷ [])) where
  pub state_absent : (is_name s ≡ true → (w : ℕ) → Number t w → ⊥) → Absent (spaced (letter d ∷ s ∷ t ∷ []))
  state_absent state =
      sided_absent _ s d (t ∷ []) (pieces_spaced (letter d ∷ s ∷ t ∷ []) (omega arith) ((letter_field d).1, lacks)) (omega arith)
      (λ n w fits i. state n w (fits, cc))
      (λ n u w cs m fits all i. omega (arith, ap length i))

  pub rule_absent : (rest : List ℕ) → (is_name s ≡ true → is_name t ≡ true → (w : ℕ) (cs : List (List ℕ)) → Ends rest w cs → ⊥) → Absent (spaced (letter d ∷ s ∷ t ∷ rest ∷ []))
  rule_absent rest rule =
      sided_absent _ s d (t ∷ pieces rest) (pieces_front (letter d ∷ s ∷ t ∷ []) rest ((letter_field d).1, lacks)) (omega arith)
      (λ n w fits i. omega (arith, pieces_some rest, ap length i))
      (λ n u w cs m fits all i. let back = spaced_pieces rest in rule n (cc) w cs (fits, all, cc))
