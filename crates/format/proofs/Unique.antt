-- A text is read in one way: the bytes of a line say which line it is, and so do those of a text.
use Rattle.std.proofs.Common.{◌≡◌, ℕ, ◌<◌, Bool, true, false, cond, eqb, leb, List, [], ◌∷◌, ◌++◌, length, get_or, codes, decimal, sym, refl, ap, ◌∙◌, subst, inl, inr, append_assoc, append-nil, arith}
use Rattle.std.specs.List.{AllByRecursion}
use Rattle.std.proofs.lemmas.Fmt.{digits_value-decimal}
use Rattle.std.proofs.ByRecursion.{All-weaker}
use Rattle.std.proofs.lemmas.Bool.{le-leb, lt-leb, leb-true, and_parts}
use Rattle.shapes.specs.declared.shape.Kind.TheVariants.{Residues, Bytes}
use Rattle.words.specs.Words.{Lacks, inner, is_name}
use Rattle.words.proofs.Lines.{cut_unique, lacks_cut, spaced_lacks, spaced_same}
use Rattle.words.proofs.Names.{named, name_lacks}
use Rattle.words.proofs.Numbers.{read, numerals, decimal_some_32, decimal_digital, decimal_lacks}
use Rattle.format.specs.Lines.{Block, Side, Line, fields, steps, symbols, states, rules, A, B, opens, names_field, extends_by, declares_symbol, declares_state, gives_rule, heading, letter, line_fields, written, text_of_lines, Fits, Formed}
use Rattle.format.specs.Reading.{Draft, MayFollow, Complete, Check, checks, AllPass, FirstFailing, after, Reads, blank, declared, LineFault, Stops}
use Rattle.format.specs.Theorems.{AcceptedAsOne, NeverBoth, OneFault}

pub heading_names : (h : Block) → AllByRecursion (λ f. is_name f ≡ true) (heading h)
heading_names fields = (refl, (refl, (refl, tt)))
heading_names steps = (refl, (refl, tt))
heading_names symbols = (refl, (refl, tt))
heading_names states = (refl, (refl, (refl, tt)))
heading_names rules = (refl, (refl, (refl, (refl, (refl, tt)))))

-- not empty, and without the byte b
abbrev pub Clear : ℕ → List ℕ → Type 0
Clear b f = (0 < length f) × Lacks b f

-- The fields of a line are clear of each byte below the minus, the lowest byte that stands in one.
module _ (b : ℕ) (out : inner b ≡ false) (low : b < 45) where
  pub name_clear : (s : List ℕ) → is_name s ≡ true → Clear b s
  name_clear s h = ((named s h).some, name_lacks b out s h)

  number_clear : (n : ℕ) → Fits n → Clear b (decimal n)
  number_clear n h = (decimal_some_32 n h, decimal_lacks n h b (omega arith))

  pub letter_clear : (d : Side) → Clear b (letter d)
  letter_clear A = (omega arith, ((λ e. omega arith), tt))
  letter_clear B = (omega arith, ((λ e. omega arith), tt))

  pub fields_clear : (l : Line) → Formed l → AllByRecursion (Clear b) (line_fields l)
  fields_clear (opens h) f = All-weaker _ (Clear b) name_clear (heading h) (heading_names h)
  fields_clear (names_field (Residues p) n) (f, g) =
      (name_clear (codes "prime") refl, (number_clear p f, (number_clear n (omega arith), tt)))
  fields_clear (names_field Bytes n) (f, g) =
      (name_clear (codes "byte") refl, ((omega arith, ((λ e. omega arith), tt)), (number_clear n (omega arith), tt)))
  fields_clear (extends_by u v) (f, g) = (number_clear u f, (number_clear v g, tt))
  fields_clear (declares_symbol s k) (f, g) = (name_clear s f, (number_clear k g, tt))
  fields_clear (declares_state d s w) (f, g) = (letter_clear d, (name_clear s f, (number_clear w g, tt)))
  fields_clear (gives_rule d s t w cs) (f, g, h, k) =
      (letter_clear d, (name_clear s f, (name_clear t g, (number_clear w h, All-weaker _ (Clear b) name_clear cs k))))

pub written_lacks : (l : Line) → Formed l → Lacks 10 (written l)
written_lacks l f =
    spaced_lacks 10 (λ e. omega arith) (line_fields l)
    (All-weaker (Clear 10) (Lacks 10) (λ _ p. p.1) (line_fields l) (fields_clear 10 refl (omega arith) l f))

-- A formed line can be told from its fields: their number and the first bytes of some tell its kind.
abbrev first : List ℕ → ℕ
first f = get_or f 0 0

abbrev numeric : List ℕ → Bool
numeric f = leb (first f) 57

abbrev side_of : List ℕ → Side
side_of f = cond (eqb (first f) 65) A B

abbrev line_of : List (List ℕ) → Line
line_of [] = opens fields
line_of (f ∷ []) = opens fields
line_of (f ∷ g ∷ []) =
    cond (numeric g)
    (cond (numeric f) (extends_by (read 0 f) (read 0 g)) (declares_symbol f (read 0 g)))
    (cond (eqb (first g) 118) (opens steps) (opens symbols))
line_of (f ∷ g ∷ h ∷ []) =
    cond (numeric h)
    (cond (leb (first f) 66)
    (declares_state (side_of f) g (read 0 h))
    (names_field (cond (eqb (first f) 98) Bytes (Residues (read 0 g))) (read 0 h)))
    (cond (eqb (first h) 102) (opens states) (opens fields))
line_of (f ∷ g ∷ h ∷ i ∷ js) =
    cond (leb (first f) 66) (gives_rule (side_of f) g h (read 0 i) js) (opens rules)

read_decimal : (n : ℕ) → Fits n → read 0 (decimal n) ≡ n
read_decimal n h = digits_value-decimal numerals n (omega arith)

decimal_numeric : (n : ℕ) → Fits n → numeric (decimal n) ≡ true
decimal_numeric n h = le-leb _ 57 (omega (arith, decimal_digital n h 0 (decimal_some_32 n h)))

name_not_numeric : (s : List ℕ) → is_name s ≡ true → numeric s ≡ false
name_not_numeric s h = lt-leb _ 57 (omega (arith, leb-true 97 (first s) (and_parts (leb 97 (first s)) _ (named s h).first).0))

line_of_fields : (l : Line) → Formed l → line_of (line_fields l) ≡ l
line_of_fields (opens fields) f = refl
line_of_fields (opens steps) f = refl
line_of_fields (opens symbols) f = refl
line_of_fields (opens states) f = refl
line_of_fields (opens rules) f = refl
line_of_fields (names_field (Residues p) n) (f, g) =
    let h : Fits n = omega arith in
    simp (decimal_numeric n h, read_decimal p f, read_decimal n h)
line_of_fields (names_field Bytes n) (f, g) = let h : Fits n = omega arith in simp (decimal_numeric n h, read_decimal n h)
line_of_fields (extends_by u v) (f, g) = simp (decimal_numeric u f, decimal_numeric v g, read_decimal u f, read_decimal v g)
line_of_fields (declares_symbol s k) (f, g) = simp (name_not_numeric s f, decimal_numeric k g, read_decimal k g)
line_of_fields (declares_state A s w) (f, g) = simp (decimal_numeric w g, read_decimal w g)
line_of_fields (declares_state B s w) (f, g) = simp (decimal_numeric w g, read_decimal w g)
line_of_fields (gives_rule A s t w cs) (f, g, h, k) = simp (read_decimal w h)
line_of_fields (gives_rule B s t w cs) (f, g, h, k) = simp (read_decimal w h)

pub written_same : (l m : Line) → Formed l → Formed m → written l ≡ written m → l ≡ m
written_same l m f g e =
    let clear = fields_clear 32 refl (omega arith) in
    let same = spaced_same (line_fields l) (line_fields m) (clear l f) (clear m g) e in
    sym (line_of_fields l f) ∙ ap line_of same ∙ line_of_fields m g

-- Checks that all pass have none that fails, and one check is the first that fails.
passing_not_failing : (cs : List Check) (n : ℕ) → AllPass cs → FirstFailing cs n → ⊥
passing_not_failing [] n p f = f
passing_not_failing (c ∷ cs) n (p, ps) (inl (q, e)) = q p
passing_not_failing (c ∷ cs) n (p, ps) (inr (q, f)) = passing_not_failing cs n ps f

one_failing : (cs : List Check) (n m : ℕ) → FirstFailing cs n → FirstFailing cs m → n ≡ m
one_failing [] n m f g = absurd f
one_failing (c ∷ cs) n m (inl (q, e)) (inl (p, d)) = cc
one_failing (c ∷ cs) n m (inl (q, e)) (inr (p, g)) = absurd (q p)
one_failing (c ∷ cs) n m (inr (q, f)) (inl (p, d)) = absurd (p q)
one_failing (c ∷ cs) n m (inr (q, f)) (inr (p, g)) = one_failing cs n m f g

-- No line is read from here on: none that may follow and passes its checks stands in front.
abbrev pub Halts : Draft → List ℕ → Type 0
Halts d rest =
    (l : Line) (more : List ℕ) → Formed l → MayFollow d d.place l → AllPass (checks d l) → rest ≡ written l ++ (10 ∷ more) → ⊥

line_front : (l : Line) (ls : List Line) (rest : List ℕ) → text_of_lines (l ∷ ls) ++ rest ≡ written l ++ (10 ∷ (text_of_lines ls ++ rest))
line_front l ls rest = simp append_assoc

-- texts that begin with a line each begin with the same line, and go on in the same way
pub same_line : (l m : Line) (ls ms : List Line) (rest rest' : List ℕ) → Formed l → Formed m → text_of_lines (l ∷ ls) ++ rest ≡ text_of_lines (m ∷ ms) ++ rest' → (l ≡ m) × (text_of_lines ls ++ rest ≡ text_of_lines ms ++ rest')
same_line l m ls ms rest rest' f g w =
    let e = sym (line_front l ls rest) ∙ w ∙ line_front m ms rest' in
    let c = cut_unique 10 (written l) (written m) _ _ (written_lacks l f) (written_lacks m g) e in
    (written_same l m f g c.0, c.1)

-- A text is read in one way, as far as it can be.
pub one_reading : (ls ms : List Line) (d e f : Draft) (rest rest' : List ℕ) → Reads d ls e → Reads d ms f → Halts e rest → Halts f rest' → text_of_lines ls ++ rest ≡ text_of_lines ms ++ rest' → (ls ≡ ms) × (e ≡ f) × (rest ≡ rest')
one_reading [] [] d e f rest rest' r s h k w = (refl, sym r ∙ s, w)
one_reading [] (m ∷ ms) d e f rest rest' r (form, place, pass, s) h k w =
    absurd (subst (λ x. Halts x rest) (sym r) h m _ form place pass (w ∙ line_front m ms rest'))
one_reading (l ∷ ls) [] d e f rest rest' (form, place, pass, r) s h k w =
    absurd (subst (λ x. Halts x rest') (sym s) k l _ form place pass (sym w ∙ line_front l ls rest))
one_reading (l ∷ ls) (m ∷ ms) d e f rest rest' (form, _, _, r) (form', _, _, s) h k w =
    let (same, left) = same_line l m ls ms rest rest' form form' w in
    let more = one_reading ls ms (after d l) e f rest rest' r (subst (λ x. Reads (after d x) ms f) (sym same) s) h k left in
    let rest_same = more.0 in
    (cc, more.1, more.2)

end_halts : (d : Draft) → Halts d []
end_halts d l more form place pass e = lacks_cut 10 [] (written l) more tt e

fault_not_line : (d : Draft) (n : ℕ) (l : Line) → Formed l → MayFollow d d.place l → AllPass (checks d l) → LineFault d (written l) n → ⊥
fault_not_line d n l form place pass (inl (e, none)) = none l form place refl
fault_not_line d n l form place pass (inr (m, form', place', e, fails)) =
    passing_not_failing (checks d l) n pass (subst (λ x. FirstFailing (checks d x) n) (written_same m l form' form e) fails)

stop_halts : (d : Draft) (rest : List ℕ) (n : ℕ) → Stops d rest n → Halts d rest
stop_halts d rest n (inl (bytes, more, e, lacks, fault)) l more' form place pass w =
    let c = cut_unique 10 bytes (written l) more more' lacks (written_lacks l form) (sym e ∙ w) in
    fault_not_line d n l form place pass (subst (λ x. LineFault d x n) c.0 fault)
stop_halts d rest n (inr (lacks, e, none)) l more' form place pass w = lacks_cut 10 rest (written l) more' lacks w

stop_not_end : (d : Draft) (n : ℕ) → Stops d [] n → Complete d → ⊥
stop_not_end d n (inl (bytes, more, e, lacks, fault)) whole = lacks_cut 10 [] bytes more tt e
stop_not_end d n (inr (lacks, e, none)) whole = none refl whole

one_line_fault : (d : Draft) (bytes : List ℕ) (n m : ℕ) → LineFault d bytes n → LineFault d bytes m → n ≡ m
one_line_fault d bytes n m (inl (e, none)) (inl (e', none')) = cc
one_line_fault d bytes n m (inl (e, none)) (inr (l, form, place, w, fails)) = absurd (none l form place w)
one_line_fault d bytes n m (inr (l, form, place, w, fails)) (inl (e, none)) = absurd (none l form place w)
one_line_fault d bytes n m (inr (l, form, place, w, fails)) (inr (l', form', place', w', fails')) =
    one_failing (checks d l) n m fails (subst (λ x. FirstFailing (checks d x) m) (written_same l' l form' form (w' ∙ sym w)) fails')

one_stop : (d : Draft) (rest : List ℕ) (n m : ℕ) → Stops d rest n → Stops d rest m → n ≡ m
one_stop d rest n m (inl (bytes, more, e, lacks, fault)) (inl (bytes', more', e', lacks', fault')) =
    let c = cut_unique 10 bytes' bytes more' more lacks' lacks (sym e' ∙ e) in
    one_line_fault d bytes n m fault (subst (λ x. LineFault d x m) c.0 fault')
one_stop d rest n m (inl (bytes, more, e, lacks, fault)) (inr (lacks', e', none')) = absurd (lacks_cut 10 rest bytes more lacks' e)
one_stop d rest n m (inr (lacks, e, none)) (inl (bytes, more, e', lacks', fault)) = absurd (lacks_cut 10 rest bytes more lacks e')
one_stop d rest n m (inr (lacks, e, none)) (inr (lacks', e', none')) = cc

pub accepted_as_one : AcceptedAsOne
accepted_as_one t r s p q =
    let e : text_of_lines p.lines ++ [] ≡ text_of_lines q.lines ++ [] = ap (λ x. x ++ []) (sym p.written ∙ q.written) in
    let same = one_reading p.lines q.lines blank _ _ [] [] p.reads q.reads (end_halts p.draft) (end_halts q.draft) e in
    sym p.record_is ∙ ap declared same.1 ∙ q.record_is

pub never_both : NeverBoth
never_both t r n k p (inl (long, _, _)) = omega arith
never_both t r n k p (inr (short, (ls, d, rest, e, reads, _, stops))) =
    let w : text_of_lines p.lines ++ [] ≡ text_of_lines ls ++ rest = append-nil _ ∙ sym p.written ∙ e in
    let same = one_reading p.lines ls blank _ d [] rest p.reads reads (end_halts p.draft) (stop_halts d rest n stops) w in
    stop_not_end d n (subst (λ x. Stops d x n) (sym same.2) stops) (subst Complete same.1 p.complete)

pub one_fault : OneFault
one_fault t n k m j (inl (long, e, z)) (inl (long', e', z')) = (cc, cc)
one_fault t n k m j (inl (long, e, z)) (inr (short, _)) = absurd (omega arith)
one_fault t n k m j (inr (short, _)) (inl (long, e, z)) = absurd (omega arith)
one_fault t n k m j (inr (short, (ls, d, rest, e, reads, line, stops))) (inr (short', (ls', d', rest', e', reads', line', stops'))) =
    let same = one_reading ls' ls blank d' d rest' rest reads' reads (stop_halts d' rest' m stops') (stop_halts d rest n stops) (sym e' ∙ e) in
    let lines_same = same.0 in
    let moved = subst (λ x. Stops d x m) same.2 (subst (λ x. Stops x rest' m) same.1 stops') in
    (one_stop d rest n m stops moved, cc)
