-- The product through the children, from its last factor to its first.
use Rattle.std.proofs.Common.{◌≡◌, ◌≢◌, ℕ, zero, suc, ◌-◌, ◌<◌, ◌≤◌, List, [], ◌∷◌, length, get_or, take, sym, refl, ap, ◌∙◌, ap₂, arith}
use Rattle.std.specs.Prelude.{reverse}
use Rattle.std.specs.List.{AllByRecursion, fold, zip}
use Rattle.field.specs.Algebra.{Algebra, Lawful, ops}
use Rattle.field.specs.Codes.{AllBelow, Codes}
use Rattle.field.specs.Ops.{Ops}
use Rattle.field.proofs.Codes.{elements, elements_ring}
use Rattle.field.proofs.Rings.{nil_prod}
use Rattle.equivalence.specs.Valuing.{through}
use Rattle.entry_vectors.specs.Combining.{Among, named}
use Rattle.entry_vectors.proofs.Backwards.{fold_back, zip_reverse}

-- the numbers up to the first that is 0
pub named_take : (cs : List ℕ) (n : ℕ) → ((i : ℕ) → i < n → get_or cs i 0 ≢ 0) → get_or cs n 0 ≡ 0 → take n cs ≡ named cs
named_take [] zero some end = refl
named_take [] (suc n) some end = absurd (some 0 (omega arith) refl)
named_take (zero ∷ cs) zero some end = refl
named_take (zero ∷ cs) (suc n) some end = absurd (some 0 (omega arith) refl)
named_take (suc c ∷ cs) zero some end = absurd (omega (arith, end))
named_take (suc c ∷ cs) (suc n) some end = ap (λ ds. suc c ∷ ds) (named_take cs n (λ i h. some (suc i) (omega arith)) end)

-- they are numbers from 1 on, as large as before
pub all_named : (m : ℕ) (cs : List ℕ) → AllByRecursion (λ c. c ≤ m) cs → Among m (named cs)
all_named m [] h = tt
all_named m (zero ∷ cs) h = tt
all_named m (suc c ∷ cs) h = ((omega arith, h.0), all_named m cs h.1)

-- what is read from codes is a code, past their end too
pub code_below : (q : ℕ) (xs : List ℕ) (i : ℕ) → 0 < q → AllBelow q xs → get_or xs i 0 < q
code_below q [] i some h = some
code_below q (x ∷ xs) zero some h = h.0
code_below q (x ∷ xs) (suc i) some h = code_below q xs i some h.1

pub element_below : (q : ℕ) (vs : List (List ℕ)) (i s : ℕ) → 0 < q → Codes q vs → get_or (get_or vs i []) s 0 < q
element_below q [] i s some h = some
element_below q (v ∷ vs) zero s some h = code_below q v s some h.0
element_below q (v ∷ vs) (suc i) s some h = element_below q vs i s some h.1

-- the factors' product, of child numbers and states in pairs
module _ (o : Ops ℕ) (vs : List (List ℕ)) where
  abbrev pub factor : ℕ × ℕ → ℕ
  factor p = get_or (get_or vs (p.0 - 1) []) (p.1 - 1) o.nil

  abbrev pub factors : List (ℕ × ℕ) → ℕ
  factors [] = o.unit
  factors (p ∷ ps) = o.prod (factor p) (factors ps)

  -- the children up to the first 0 are all that count
  pub through_named : (cs ss : List ℕ) → through o vs (named cs) ss ≡ through o vs cs ss
  through_named [] ss = refl
  through_named (zero ∷ cs) [] = refl
  through_named (zero ∷ cs) (s ∷ ss) = refl
  through_named (suc c ∷ cs) [] = refl
  through_named (suc c ∷ cs) (s ∷ ss) = ap (o.prod (get_or (get_or vs c []) (s - 1) o.nil)) (through_named cs ss)

  through_pairs : (m : ℕ) (cs ss : List ℕ) → Among m cs → length cs ≡ length ss → through o vs cs ss ≡ factors (zip cs ss)
  through_pairs m [] [] h e = refl
  through_pairs m [] (s ∷ ss) h e = absurd (omega arith)
  through_pairs m (c ∷ cs) [] h e = absurd (omega arith)
  through_pairs m (zero ∷ cs) (s ∷ ss) h e = absurd (omega (arith, h.0.0))
  through_pairs m (suc c ∷ cs) (s ∷ ss) h e =
      let at : suc c - 1 ≡ c = omega arith in
      ap₂ (λ d. o.prod (get_or (get_or vs d []) (s - 1) o.nil)) (sym at) (through_pairs m cs ss h.1 (omega arith))

  -- gathered from the last pair to the first
  pub through_gathered :
      (m : ℕ) (cs ss : List ℕ) (ps : List (ℕ × ℕ))
      → Among m cs
      → length cs ≡ length ss
      → ps ≡ zip (reverse cs) (reverse ss)
      → fold (λ y p. o.prod (factor p) y) o.unit ps ≡ through o vs cs ss
  through_gathered m cs ss ps among e pairs =
      ap (fold (λ y p. o.prod (factor p) y) o.unit) (pairs ∙ zip_reverse cs ss e)
      ∙ fold_back (λ p y. o.prod (factor p) y) factors (λ p qs. refl) (zip cs ss)
      ∙ sym (through_pairs m cs ss among e)

-- where there are not as many states as children it is zero
module _ (A : Algebra) (L : Lawful A) (vs : List (List ℕ)) (codes : Codes A.size vs) where
  times_zero : (x : ℕ) → x < A.size → A.prod x 0 ≡ 0
  times_zero x b =
      let R = elements_ring A L in
      ap (λ y. y.0) (R.prod_comm (x, b) (elements A L).nil ∙ nil_prod R (x, b))

  pub through_apart : (m : ℕ) (cs ss : List ℕ) → Among m cs → length cs ≢ length ss → through (ops A) vs cs ss ≡ 0
  through_apart m [] [] h ne = absurd (ne refl)
  through_apart m [] (s ∷ ss) h ne = refl
  through_apart m (zero ∷ cs) ss h ne = absurd (omega (arith, h.0.0))
  through_apart m (suc c ∷ cs) [] h ne = refl
  through_apart m (suc c ∷ cs) (s ∷ ss) h ne =
      let two = L.least in
      ap (A.prod (get_or (get_or vs c []) (s - 1) 0)) (through_apart m cs ss h.1 (λ e. ne (ap suc e)))
      ∙ times_zero _ (element_below A.size vs c (s - 1) (omega arith) codes)
