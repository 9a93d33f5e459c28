-- The pieces of a text between its spaces, and the fields of a line as the pieces of its text.
use Rattle.std.proofs.Common.{◌≡◌, ℕ, ◌<◌, true, eqb, List, [], ◌∷◌, ◌++◌, length, sym, refl, ap, ◌∙◌, inl, inr, append_assoc, arith}
use Rattle.std.specs.List.{AllByRecursion}
use Rattle.std.proofs.ByRecursion.{All-weaker}
use Rattle.std.proofs.lemmas.Bool.{cases_Bool, eqb-true, ne_eqb}
use Rattle.words.specs.Words.{is_name, spaced, Lacks}
use Rattle.words.proofs.Lines.{Field}
use Rattle.shapes.specs.declared.shape.Kind.TheVariants.{Residues, Bytes}
use Rattle.format.specs.Lines.{Line, Side, fields, steps, symbols, states, rules, opens, names_field, extends_by, declares_symbol, declares_state, gives_rule, letter, line_fields, written, Formed}
use Rattle.format.proofs.Unique.{name_clear, letter_clear, fields_clear}
use Rattle.lines.specs.Recognized.{onto, parted}

pub parted_cut : (front rest : List ℕ) → Lacks 32 front → parted (front ++ (32 ∷ rest)) ≡ front ∷ parted rest
parted_cut [] rest h = refl
parted_cut (x ∷ front) rest h = rw (ne_eqb x 32 h.0, parted_cut front rest h.1)

parted_one : (x : ℕ) (xs : List ℕ) → Lacks 32 (x ∷ xs) → parted (x ∷ xs) ≡ (x ∷ xs) ∷ []
parted_one x [] h = rw (ne_eqb x 32 h.0)
parted_one x (y ∷ xs) h = rw (ne_eqb x 32 h.0, parted_one y xs h.1)

pub parted_field : (f : List ℕ) → Field f → parted f ≡ f ∷ []
parted_field [] h = absurd (omega (arith, h.0))
parted_field (x ∷ f) h = parted_one x f h.1

pub parted_spaced : (fs : List (List ℕ)) → AllByRecursion Field fs → parted (spaced fs) ≡ fs
parted_spaced [] h = refl
parted_spaced (f ∷ []) h = parted_field f h.0
parted_spaced (f ∷ g ∷ fs) h = parted_cut f _ h.0.1 ∙ ap (λ ps. f ∷ ps) (parted_spaced (g ∷ fs) h.1)

-- all pieces, the empty one after a last space too
abbrev pub pieces : List ℕ → List (List ℕ)
pieces xs = parted (xs ++ (32 ∷ []))

pub pieces_one : (xs : List ℕ) → Lacks 32 xs → pieces xs ≡ xs ∷ []
pieces_one xs h = parted_cut xs [] h

pub pieces_cut : (front rest : List ℕ) → Lacks 32 front → pieces (front ++ (32 ∷ rest)) ≡ front ∷ pieces rest
pieces_cut front rest h = ap parted (append_assoc front (32 ∷ rest) (32 ∷ [])) ∙ parted_cut front _ h

onto_some : (x : ℕ) (ps : List (List ℕ)) → 0 < length (onto x ps)
onto_some x [] = omega arith
onto_some x (p ∷ ps) = omega arith

pub pieces_some : (xs : List ℕ) → 0 < length (pieces xs)
pieces_some [] = omega arith
pieces_some (x ∷ xs) =
    elim (cases_Bool (eqb x 32)) [ inl h ↦ rw h (omega arith) | inr h ↦ rw h (onto_some x (pieces xs)) ]

spaced_onto : (x : ℕ) (ps : List (List ℕ)) → spaced (onto x ps) ≡ x ∷ spaced ps
spaced_onto x [] = refl
spaced_onto x (p ∷ []) = refl
spaced_onto x (p ∷ q ∷ ps) = refl

spaced_empty : (ps : List (List ℕ)) → 0 < length ps → spaced ([] ∷ ps) ≡ 32 ∷ spaced ps
spaced_empty [] h = absurd (omega arith)
spaced_empty (p ∷ ps) h = refl

pub spaced_pieces : (xs : List ℕ) → spaced (pieces xs) ≡ xs
spaced_pieces [] = refl
spaced_pieces (x ∷ xs) =
    let e = spaced_pieces xs in
    elim (cases_Bool (eqb x 32)) [
      | inl h ↦ let space = eqb-true x 32 h in rw h (let s = spaced_empty (pieces xs) (pieces_some xs) in cc)
      | inr h ↦ rw h (spaced_onto x (pieces xs) ∙ ap (λ ys. x ∷ ys) e)
    ]

-- a text that is one piece
pub piece_alone : (xs f : List ℕ) → pieces xs ≡ f ∷ [] → xs ≡ f
piece_alone xs f e = sym (spaced_pieces xs) ∙ ap spaced e

pub pieces_spaced : (fs : List (List ℕ)) → 0 < length fs → AllByRecursion (Lacks 32) fs → pieces (spaced fs) ≡ fs
pieces_spaced [] some h = absurd (omega arith)
pieces_spaced (f ∷ []) some h = pieces_one f h.0
pieces_spaced (f ∷ g ∷ fs) some h =
    pieces_cut f _ h.0 ∙ ap (λ ps. f ∷ ps) (pieces_spaced (g ∷ fs) (omega arith) h.1)

-- pieces that lack the space, and those of the rest
pub pieces_front : (fs : List (List ℕ)) (rest : List ℕ) → AllByRecursion (Lacks 32) fs → pieces (spaced (fs ++ (rest ∷ []))) ≡ fs ++ pieces rest
pieces_front [] rest h = refl
pieces_front (f ∷ []) rest h = pieces_cut f rest h.0
pieces_front (f ∷ g ∷ fs) rest h = pieces_cut f _ h.0 ∙ ap (λ ps. f ∷ ps) (pieces_front (g ∷ fs) rest h.1)

pub fields_lack : (fs : List (List ℕ)) → AllByRecursion Field fs → AllByRecursion (Lacks 32) fs
fields_lack fs h = All-weaker Field (Lacks 32) (λ _ f. f.1) fs h

name_field : (s : List ℕ) → is_name s ≡ true → Field s
name_field = name_clear 32 refl (omega arith)

pub names_fields : (cs : List (List ℕ)) → AllByRecursion (λ c. is_name c ≡ true) cs → AllByRecursion Field cs
names_fields cs h = All-weaker (λ c. is_name c ≡ true) Field name_field cs h

pub letter_field : (d : Side) → Field (letter d)
letter_field = letter_clear 32 refl (omega arith)

pub line_long : (m : Line) → 1 < length (line_fields m)
line_long (opens fields) = omega arith
line_long (opens steps) = omega arith
line_long (opens symbols) = omega arith
line_long (opens states) = omega arith
line_long (opens rules) = omega arith
line_long (names_field (Residues p) n) = omega arith
line_long (names_field Bytes n) = omega arith
line_long (extends_by u v) = omega arith
line_long (declares_symbol s k) = omega arith
line_long (declares_state d s w) = omega arith
line_long (gives_rule d s t w cs) = omega arith

-- the fields of a line are the pieces of its text
pub line_pieces : (m : Line) → Formed m → pieces (written m) ≡ line_fields m
line_pieces m h =
    pieces_spaced (line_fields m) (omega (arith, line_long m)) (fields_lack (line_fields m) (fields_clear 32 refl (omega arith) m h))
