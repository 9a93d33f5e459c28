-- Elimination: reducing a vector by rows in echelon form tells whether it is in their span. Assumes nothing.
use Rattle.std.proofs.Common.{◌≡◌, ℕ, zero, suc, ◌-◌, ◌%◌, ◌<◌, ◌≤◌, min, max, ◌↔◌, List, [], ◌∷◌, ◌++◌, map, length, get_or, fold, sym, refl, ap, ◌∙◌, ap₂, subst₂, ⊎_elim, mod-lt, mod-eq_of_lt, arith}
use mathlib.Core.Path.{fun_ext}
use mathlib.Core.List.{map-map}
use Rattle.std.specs.List.{AllByRecursion, range_with_len}
use Rattle.std.proofs.lemmas.List.{map_push, length-map, map-id, get_or_past}
use Rattle.std.proofs.lemmas.List.FromFn.{length-map-range_with_len, get_or-map-range_with_len}
use Rattle.std.proofs.lemmas.Bool.{cases_lt}
use Rattle.std.proofs.ByRecursion.{All-weaker, All-get_or, All-map, All-push}
use Rattle.field.specs.Ops.{Ops, Ring, dot}
use Rattle.field.specs.Algebra.{Algebra, Lawful, ops}
use Rattle.field.proofs.Codes.{Code, code_path, zero_below, elements, elements_ring}
use Rattle.field.proofs.Rings.{nil_sum, opp_prod, prod_nil, unit_prod, sum_left_comm, opp_cancel, sum_cancel}
use Rattle.equivalence.specs.Spans.{SumOfMultiples}
use Rattle.equivalence.proofs.Space.{Vector, combined, Spanned}
use Rattle.equivalence.proofs.Closure.{
  spanned_same,
  spanned_none,
  spanned_cons,
  spanned_uncons,
  spanned_nil,
  spanned_sum,
  spanned_append,
  spanned_trans,
  spanned_last,
  spanned_nil_at,
  spanned_scaled,
  SameSpan,
  same_span_last,
  same_span_push,
  same_span_trans,
}

-- a row: a place, its pivot, and a vector
abbrev pub Row : Type 0 → Type 0
Row V = (p : ℕ) × V

abbrev pub vectors : {V : Type 0} → List (Row V) → List V
vectors rows = map (λ x. x.1) rows

-- v less the multiple of the row that leaves zero at the row's pivot
abbrev pub cleared : {K V : Type 0} → Ops K → (V → ℕ → K) → V → Row V → Vector K
cleared o entry v x i = o.sum (entry v i) (o.prod (o.opp (entry v x.0)) (entry x.1 i))

-- Each row is one at its pivot, which is below n, and there each later row is zero.
abbrev pub Echelon : {K V : Type 0} → Ops K → (V → ℕ → K) → ℕ → List (Row V) → Type 0
Echelon o entry n [] = Unit {0}
Echelon o entry n (x ∷ rows) =
    (x.0 < n) × (entry x.1 x.0 ≡ o.unit) × AllByRecursion (λ y. entry y.1 x.0 ≡ o.nil) rows × Echelon o entry n rows

abbrev pub place_of : {K : Type 0} → Vector K → ℕ → K
place_of v i = v i

-- v cleared by each row, in order
abbrev pub reduced : {K : Type 0} → Ops K → List (Row (Vector K)) → Vector K → Vector K
reduced o rows v = fold (cleared o place_of) v rows

abbrev pub scaled : {K : Type 0} → Ops K → K → Vector K → Vector K
scaled o c v i = o.prod c (v i)

all_everywhere : {X : Type 0} (P : X → Type 0) → ((x : X) → P x) → (xs : List X) → AllByRecursion P xs
all_everywhere P h [] = tt
all_everywhere P h (x ∷ xs) = (h x, all_everywhere P h xs)

all_with :
    {X : Type 0} (P Q S : X → Type 0) → ((x : X) → P x → Q x → S x) → (xs : List X) → AllByRecursion P xs → AllByRecursion Q xs → AllByRecursion S xs
all_with P Q S f [] h k = tt
all_with P Q S f (x ∷ xs) h k = (f x h.0 k.0, all_with P Q S f xs h.1 k.1)

all_unmap : {X Y : Type 0} (P : Y → Type 0) (f : X → Y) (xs : List X) → AllByRecursion P (map f xs) → AllByRecursion (λ x. P (f x)) xs
all_unmap P f [] h = tt
all_unmap P f (x ∷ xs) h = (h.0, all_unmap P f xs h.1)

-- m numbers below n no two of which are equal are at most n: without the last, the greater ones move down by one
pub pigeons : (n m : ℕ) (g : ℕ → ℕ) → ((i : ℕ) → i < m → g i < n) → ((i j : ℕ) → i < j → j < m → g i ≡ g j → ⊥) → m ≤ n
pigeons n zero g below apart = omega arith
pigeons zero (suc m) g below apart = let b = below m (omega arith) in omega arith
pigeons (suc n) (suc m) g below apart =
    let last = below m (omega arith) in
    let rest = pigeons n m (λ i. max (min (g i) (g m)) (g i - 1))
    (λ i l. let b = below i (omega arith) in let ne = apart i m l (omega arith) in omega arith)
    (λ i j l k e.
    let ni = apart i m (omega arith) (omega arith) in
    let nj = apart j m k (omega arith) in let ne = apart i j l (omega arith) in omega arith) in
    omega arith

module _ {K V : Type 0} (o : Ops K) (entry : V → ℕ → K) (n : ℕ) where
  pub echelon_ones : (rows : List (Row V)) → Echelon o entry n rows → AllByRecursion (λ x. (x.0 < n) × (entry x.1 x.0 ≡ o.unit)) rows
  echelon_ones [] h = tt
  echelon_ones (x ∷ rows) h = ((h.0, h.1), echelon_ones rows h.3)

  echelon_later :
      (rows : List (Row V)) (i j : ℕ) (d : Row V)
      → Echelon o entry n rows
      → i < j
      → j < length rows
      → entry (get_or rows j d).1 (get_or rows i d).0 ≡ o.nil
  echelon_later [] i j d h l k = absurd (omega arith)
  echelon_later (x ∷ rows) i zero d h l k = absurd (omega arith)
  echelon_later (x ∷ rows) zero (suc j) d h l k = All-get_or _ rows j d (omega arith) h.2
  echelon_later (x ∷ rows) (suc i) (suc j) d h l k = echelon_later rows i j d h.3 (omega arith) (omega arith)

  -- an echelon form has at most n rows
  pub echelon_few : (rows : List (Row V)) → (o.unit ≡ o.nil → ⊥) → Echelon o entry n rows → length rows ≤ n
  echelon_few [] ne h = omega arith
  echelon_few (x ∷ rows) ne h =
      pigeons n _ (λ i. (get_or (x ∷ rows) i x).0) (λ i l. (All-get_or _ (x ∷ rows) i x l (echelon_ones (x ∷ rows) h)).0)
      (λ i j l k e.
      ne
      (sym (All-get_or _ (x ∷ rows) j x k (echelon_ones (x ∷ rows) h)).1
      ∙ ap (entry (get_or (x ∷ rows) j x).1) (sym e) ∙ echelon_later (x ∷ rows) i j x h l k))

  pub echelon_push :
      (rows : List (Row V)) (x : Row V)
      → Echelon o entry n rows
      → x.0 < n
      → entry x.1 x.0 ≡ o.unit
      → AllByRecursion (λ y. entry x.1 y.0 ≡ o.nil) rows
      → Echelon o entry n (rows ++ (x ∷ []))
  echelon_push [] x h l one z = (l, one, tt, tt)
  echelon_push (y ∷ rows) x h l one z =
      (h.0, h.1, All-push _ rows x h.2 z.0, echelon_push rows x h.3 l one z.1)

module _ {K : Type 0} {o : Ops K} (R : Ring o) where
  open o use {nil, unit, opp, sum as ◌⊕◌, prod as ◌⊗◌}
  open R use {sum_assoc, sum_comm, sum_nil, sum_opp, prod_assoc, prod_comm, prod_unit}

  infixl 65 ◌⊕◌
  infixl 70 ◌⊗◌
  -- adding the multiple again undoes clearing
  restored : (a c r : K) → a ≡ c ⊗ r ⊕ (a ⊕ opp c ⊗ r)
  restored a c r =
      sym
      (sum_left_comm R (c ⊗ r) a (opp c ⊗ r) ∙ ap (λ w. a ⊕ w) (ap (λ w. c ⊗ r ⊕ w) (opp_prod R c r) ∙ sum_opp (c ⊗ r)) ∙ sum_nil a)

  cleared_pivot : (v : Vector K) (x : Row (Vector K)) → x.1 x.0 ≡ unit → cleared o place_of v x x.0 ≡ nil
  cleared_pivot v x e = simp (cleared, e, prod_unit, sum_opp)

  cleared_keeps : (p : ℕ) (v : Vector K) (x : Row (Vector K)) → x.1 p ≡ nil → cleared o place_of v x p ≡ v p
  cleared_keeps p v x e = simp (cleared, e, prod_nil R, sum_nil)

  reduced_keeps :
      (p : ℕ) (rows : List (Row (Vector K))) (v : Vector K) → AllByRecursion (λ y. y.1 p ≡ nil) rows → reduced o rows v p ≡ v p
  reduced_keeps p [] v h = refl
  reduced_keeps p (x ∷ rows) v h = reduced_keeps p rows (cleared o place_of v x) h.1 ∙ cleared_keeps p v x h.0

  -- the reduced vector is zero at every pivot
  pub reduced_pivots :
      (n : ℕ) (rows : List (Row (Vector K))) (v : Vector K)
      → Echelon o place_of n rows
      → AllByRecursion (λ x. reduced o rows v x.0 ≡ nil) rows
  reduced_pivots n [] v h = tt
  reduced_pivots n (x ∷ rows) v h = (
    reduced_keeps x.0 rows (cleared o place_of v x) h.2 ∙ cleared_pivot v x h.1,
    reduced_pivots n rows (cleared o place_of v x) h.3,
  )

  -- reducing changes the vector by a sum of multiples of the rows
  pub reduced_changes :
      (rows : List (Row (Vector K))) (v : Vector K)
      → (u : Vector K) × Spanned o (vectors rows) u × ((i : ℕ) → v i ≡ u i ⊕ reduced o rows v i)
  reduced_changes [] v = ((λ i. nil), spanned_nil R [] (λ i. nil) (λ i. refl), λ i. sym (nil_sum R (v i)))
  reduced_changes (x ∷ rows) v =
      let t = reduced_changes rows (cleared o place_of v x) in
      let u : Vector K = λ i. v x.0 ⊗ x.1 i ⊕ t.0 i in (
        u,
        spanned_cons R x.1 (vectors rows) (v x.0) t.0 u t.1 (λ i. refl),
        λ i. restored (v i) (v x.0) (x.1 i) ∙ ap (λ w. v x.0 ⊗ x.1 i ⊕ w) (t.2 i) ∙ sym (sum_assoc _ _ _),
      )

  -- reduced to zero, a vector is spanned
  pub spanned_from_reduced :
      (rows : List (Row (Vector K))) (v : Vector K) → ((i : ℕ) → reduced o rows v i ≡ nil) → Spanned o (vectors rows) v
  spanned_from_reduced rows v z =
      let t = reduced_changes rows v in
      spanned_same R (vectors rows) t.0 v (λ i. t.2 i ∙ ap (λ w. t.0 i ⊕ w) (z i) ∙ sum_nil (t.0 i)) t.1

  -- and in echelon form a spanned vector reduces to zero
  pub reduced_from_spanned :
      (n : ℕ) (rows : List (Row (Vector K))) (v : Vector K)
      → Echelon o place_of n rows
      → Spanned o (vectors rows) v
      → (i : ℕ)
      → reduced o rows v i ≡ nil
  reduced_from_spanned n [] v h s = spanned_none R v s
  reduced_from_spanned n (x ∷ rows) v h s =
      let t = spanned_uncons R x.1 (vectors rows) v s in
      let off = spanned_nil_at R x.0 (vectors rows) t.1 (All-map (λ w. w x.0 ≡ nil) (λ y. y.1) rows h.2) t.2 in
      let c : v x.0 ≡ t.0 = t.3 x.0 ∙ simp (h.1, off, prod_unit, sum_nil) in
      reduced_from_spanned n rows (cleared o place_of v x) h.3
      (spanned_same R (vectors rows) t.1 (cleared o place_of v x)
      (λ i.
      sum_cancel R (v x.0 ⊗ x.1 i) _ _
      (sym (restored (v i) (v x.0) (x.1 i)) ∙ t.3 i ∙ ap (λ w. w ⊗ x.1 i ⊕ t.1 i) (sym c)))
      t.2)

  minus : (u v w : K) → v ≡ u ⊕ w → w ≡ opp unit ⊗ u ⊕ v
  minus u v w e =
      sym (rw e (ap (λ z. z ⊕ (u ⊕ w)) (opp_prod R unit u ∙ ap opp (unit_prod R u)) ∙ opp_cancel R u w))

  pub reduced_spanned :
      (rows : List (Row (Vector K))) (v : Vector K) → Spanned o (vectors rows ++ (v ∷ [])) (reduced o rows v)
  reduced_spanned rows v =
      let t = reduced_changes rows v in
      spanned_sum R (vectors rows ++ (v ∷ [])) (opp unit) t.0 v (reduced o rows v)
      (spanned_append R (vectors rows) (v ∷ []) t.0 t.1) (spanned_last R (vectors rows) v)
      (λ i. minus (t.0 i) (v i) (reduced o rows v i) (t.2 i))

  unscaled : (c y x : K) → c ⊗ y ≡ unit → x ≡ c ⊗ (y ⊗ x)
  unscaled c y x e = sym (sym (prod_assoc c y x) ∙ ap (λ w. w ⊗ x) e ∙ unit_prod R x)

  -- The row made of the reduced vector, where y is the inverse of its entry at a place p, keeps the echelon form,
  module _
      (n : ℕ) (rows : List (Row (Vector K))) (v : Vector K) (p : ℕ) (y : K) (e : reduced o rows v p ⊗ y ≡ unit) where
    pub echelon_more :
        Echelon o place_of n rows → p < n → Echelon o place_of n (rows ++ ((p, scaled o y (reduced o rows v)) ∷ []))
    echelon_more h l =
        echelon_push o place_of n rows (p, scaled o y (reduced o rows v)) h l (prod_comm y (reduced o rows v p) ∙ e)
        (All-weaker _ (λ x. y ⊗ reduced o rows v x.0 ≡ nil) (λ x z. ap (λ w. y ⊗ w) z ∙ prod_nil R y) rows (reduced_pivots n rows v h))

    -- and spans with the rows what the vector spans with them.
    pub echelon_same_span : SameSpan o (vectors rows ++ (v ∷ [])) (vectors rows ++ (scaled o y (reduced o rows v) ∷ []))
    echelon_same_span =
        let w = reduced o rows v in
        let t = reduced_changes rows v in
        same_span_last R (vectors rows) v (scaled o y w) (spanned_scaled R (vectors rows ++ (v ∷ [])) y w (reduced_spanned rows v))
        (spanned_sum R (vectors rows ++ (scaled o y w ∷ [])) (w p) (scaled o y w) t.0 v
        (spanned_last R (vectors rows) (scaled o y w)) (spanned_append R (vectors rows) (scaled o y w ∷ []) t.0 t.1)
        (λ i. t.2 i ∙ sum_comm (t.0 i) (w i) ∙ ap (λ z. z ⊕ t.0 i) (unscaled (w p) y (w i) e)))

-- The same of lists of codes. A vector is a list of n codes below the size.
abbrev pub Coded : Algebra → ℕ → List ℕ → Type 0
Coded A n v = (length v ≡ n) × AllByRecursion (λ c. c < A.size) v

abbrev pub code_at : List ℕ → ℕ → ℕ
code_at v i = get_or v i 0

-- v less the multiple of the row that leaves zero at the row's pivot, and so by each row, in order
abbrev pub cleared_codes : Algebra → ℕ → List ℕ → Row (List ℕ) → List ℕ
cleared_codes A n v x = map (cleared (ops A) code_at v x) (range_with_len 0 n)

abbrev pub reduced_codes : Algebra → ℕ → List (Row (List ℕ)) → List ℕ → List ℕ
reduced_codes A n rows v = fold (cleared_codes A n) v rows

abbrev pub scaled_codes : Algebra → ℕ → ℕ → List ℕ → List ℕ
scaled_codes A n c v = map (λ i. A.prod c (code_at v i)) (range_with_len 0 n)

-- the row with its pivot at p that is made of the reduced vector times y
abbrev pub new_row : Algebra → ℕ → List (Row (List ℕ)) → List ℕ → ℕ → ℕ → Row (List ℕ)
new_row A n rows v p y = (p, scaled_codes A n y (reduced_codes A n rows v))

pub record EchelonCodes (A : Algebra) (n : ℕ) (rows : List (Row (List ℕ))) : Type 0 where
  pub coded : AllByRecursion (Coded A n) (vectors rows)
  pub echelon : Echelon (ops A) code_at n rows

-- Two lists of vectors, each of which is a sum of multiples of the other list's.
pub record SameSums (A : Algebra) (n : ℕ) (us vs : List (List ℕ)) : Type 0 where
  pub left : AllByRecursion (Coded A n) us
  pub right : AllByRecursion (Coded A n) vs
  pub of_left : AllByRecursion (SumOfMultiples A n us) vs
  pub of_right : AllByRecursion (SumOfMultiples A n vs) us

module _ (A : Algebra) (L : Lawful A) (n : ℕ) where
  abbrev o : Ops (Code A.size)
  o = elements A L

  R : Ring o
  R = elements_ring A L

  -- the number of an element, the element of a number, and the vector of a list
  abbrev plain : Code A.size → ℕ
  plain c = c.0

  abbrev code : ℕ → Code A.size
  code c = (c % A.size, mod-lt c (zero_below L.least))

  abbrev lift : List ℕ → Vector (Code A.size)
  lift v i = code (code_at v i)

  abbrev lift_row : Row (List ℕ) → Row (Vector (Code A.size))
  lift_row x = (x.0, lift x.1)

  plain_code : (c : ℕ) → c < A.size → plain (code c) ≡ c
  plain_code c l = mod-eq_of_lt l

  code_same : (c : ℕ) (x : Code A.size) → c ≡ plain x → code c ≡ x
  code_same c x e = code_path _ _ (ap (λ d. d % A.size) e ∙ mod-eq_of_lt x.1)

  plain_codes : {X : Type 0} (f : X → ℕ) (xs : List X) → AllByRecursion (λ x. f x < A.size) xs → map plain (map (λ x. code (f x)) xs) ≡ map f xs
  plain_codes f [] h = refl
  plain_codes f (x ∷ xs) h = ap₂ ◌∷◌ (plain_code (f x) h.0) (plain_codes f xs h.1)

  plain_dot : (cs ys : List (Code A.size)) → plain (dot o cs ys) ≡ dot (ops A) (map plain cs) (map plain ys)
  plain_dot [] ys = refl
  plain_dot (c ∷ cs) [] = refl
  plain_dot (c ∷ cs) (y ∷ ys) = ap (A.sum (A.prod (plain c) (plain y))) (plain_dot cs ys)

  coded_counting : (f : ℕ → ℕ) → ((i : ℕ) → f i < A.size) → Coded A n (map f (range_with_len 0 n))
  coded_counting f h =
      (length-map-range_with_len f 0 n, All-map (λ c. c < A.size) f (range_with_len 0 n) (all_everywhere (λ i. f i < A.size) h (range_with_len 0 n)))

  lift_counting :
      (f : ℕ → ℕ) (v : Vector (Code A.size))
      → ((i : ℕ) → f i ≡ plain (v i))
      → ((i : ℕ) → n ≤ i → v i ≡ o.nil)
      → lift (map f (range_with_len 0 n)) ≡ v
  lift_counting f v h past =
      fun_ext
      (λ i.
      code_same (code_at (map f (range_with_len 0 n)) i) (v i)
      (⊎_elim (λ (l : i < n). get_or-map-range_with_len f 0 n i i 0 l (omega arith) ∙ h i)
      (λ (l : n ≤ i).
      get_or_past (map f (range_with_len 0 n)) i 0 (rw (length-map-range_with_len f 0 n) l) ∙ ap plain (sym (past i l)))
      (cases_lt i n)))

  module _ (v : List ℕ) (h : Coded A n v) where
    coded_at : (i : ℕ) → code_at v i < A.size
    coded_at i =
        ⊎_elim (λ (l : i < length v). All-get_or _ v i 0 l h.1)
        (λ (l : length v ≤ i). rw (get_or_past v i 0 l) (zero_below L.least)) (cases_lt i (length v))

    lift_plain : (i : ℕ) → plain (lift v i) ≡ code_at v i
    lift_plain i = plain_code (code_at v i) (coded_at i)

    lift_past : (i : ℕ) → n ≤ i → lift v i ≡ o.nil
    lift_past i l = code_same (code_at v i) o.nil (get_or_past v i 0 (omega arith))

    -- a list is zero where its vector is
    lift_nil : ((i : ℕ) → i < n → code_at v i ≡ 0) → (i : ℕ) → lift v i ≡ o.nil
    lift_nil z i = ⊎_elim (λ (l : i < n). code_same (code_at v i) o.nil (z i l)) (lift_past i) (cases_lt i n)

    unlift_nil : (i : ℕ) → lift v i ≡ o.nil → code_at v i ≡ 0
    unlift_nil i e = sym (lift_plain i) ∙ ap plain e

    module _ (c : ℕ) (l : c < A.size) where
      scaled_coded : Coded A n (scaled_codes A n c v)
      scaled_coded = coded_counting (λ i. A.prod c (code_at v i)) (λ i. L.ring.prod_below c (code_at v i) l (coded_at i))

      lift_scaled : lift (scaled_codes A n c v) ≡ scaled o (code c) (lift v)
      lift_scaled =
          lift_counting (λ i. A.prod c (code_at v i)) (scaled o (code c) (lift v)) (λ i. cc (plain_code c l, lift_plain i))
          (λ i k. ap (o.prod (code c)) (lift_past i k) ∙ prod_nil R (code c))

  module _ (v : List ℕ) (h : Coded A n v) (x : Row (List ℕ)) (k : Coded A n x.1) where
    cleared_coded : Coded A n (cleared_codes A n v x)
    cleared_coded =
        coded_counting (cleared (ops A) code_at v x)
        (λ i.
        L.ring.sum_below _ _ (coded_at v h i)
        (L.ring.prod_below _ _ (L.ring.opp_below _ (coded_at v h x.0)) (coded_at x.1 k i)))

    lift_cleared : lift (cleared_codes A n v x) ≡ cleared o place_of (lift v) (lift_row x)
    lift_cleared =
        lift_counting (cleared (ops A) code_at v x) (cleared o place_of (lift v) (lift_row x))
        (λ i. cc (lift_plain v h i, lift_plain v h x.0, lift_plain x.1 k i))
        (λ i l. cleared_keeps R i (lift v) (lift_row x) (lift_past x.1 k i l) ∙ lift_past v h i l)

  pub reduced_coded :
      (rows : List (Row (List ℕ))) (v : List ℕ)
      → AllByRecursion (Coded A n) (vectors rows)
      → Coded A n v
      → Coded A n (reduced_codes A n rows v)
  reduced_coded [] v hs h = h
  reduced_coded (x ∷ rows) v hs h = reduced_coded rows (cleared_codes A n v x) hs.1 (cleared_coded v h x hs.0)

  lift_reduced :
      (rows : List (Row (List ℕ))) (v : List ℕ)
      → AllByRecursion (Coded A n) (vectors rows)
      → Coded A n v
      → lift (reduced_codes A n rows v) ≡ reduced o (map lift_row rows) (lift v)
  lift_reduced [] v hs h = refl
  lift_reduced (x ∷ rows) v hs h =
      lift_reduced rows (cleared_codes A n v x) hs.1 (cleared_coded v h x hs.0)
      ∙ ap (reduced o (map lift_row rows)) (lift_cleared v h x hs.0)

  lift_vectors : (rows : List (Row (List ℕ))) → vectors (map lift_row rows) ≡ map lift (vectors rows)
  lift_vectors rows = map-map (λ x. x.1) lift_row rows ∙ sym (map-map lift (λ x. x.1) rows)

  lift_echelon : (rows : List (Row (List ℕ))) → Echelon (ops A) code_at n rows → Echelon o place_of n (map lift_row rows)
  lift_echelon [] h = tt
  lift_echelon (x ∷ rows) h = (
    h.0,
    code_same _ o.unit h.1,
    All-map (λ y. y.1 x.0 ≡ o.nil) lift_row rows
        (All-weaker _ (λ y. lift y.1 x.0 ≡ o.nil) (λ y e. code_same _ o.nil e) rows h.2),
    lift_echelon rows h.3,
  )

  -- Sums of multiples of lists are spans of their vectors.
  module _ (vs : List (List ℕ)) (hs : AllByRecursion (Coded A n) vs) where
    plain_combined :
        (cs : List (Code A.size)) (i : ℕ)
        → plain (combined o cs (map lift vs) i) ≡ dot (ops A) (map plain cs) (map (λ w. code_at w i) vs)
    plain_combined cs i =
        plain_dot cs (map (λ v. v i) (map lift vs))
        ∙ ap (λ ys. dot (ops A) (map plain cs) (map plain ys)) (map-map (λ v. v i) lift vs)
        ∙ ap (dot (ops A) (map plain cs))
        (plain_codes (λ w. code_at w i) vs (All-weaker _ (λ w. code_at w i < A.size) (λ w h. coded_at w h i) vs hs))

    spanned_plain :
        (u : Vector (Code A.size))
        → Spanned o (map lift vs) u
        → (cs : List ℕ) × (length cs ≡ length vs) × AllByRecursion (λ c. c < A.size) cs
        × ((i : ℕ) → plain (u i) ≡ dot (ops A) cs (map (λ w. code_at w i) vs))
    spanned_plain u s = (
      map plain s.0,
      length-map s.0 plain ∙ s.1 ∙ length-map vs lift,
      All-map (λ c. c < A.size) plain s.0 (all_everywhere (λ c. plain c < A.size) (λ c. c.1) s.0),
      λ i. ap plain (s.2 i) ∙ plain_combined s.0 i,
    )

    module _ (v : List ℕ) (h : Coded A n v) where
      sums_from_spanned : Spanned o (map lift vs) (lift v) → SumOfMultiples A n vs v
      sums_from_spanned s = let t = spanned_plain (lift v) s in (t.0, (t.1, t.2, λ i l. sym (lift_plain v h i) ∙ t.3 i))

      spanned_from_sums : SumOfMultiples A n vs v → Spanned o (map lift vs) (lift v)
      spanned_from_sums s =
          let cs = map code s.0 in
          let same = plain_codes (λ c. c) s.0 s.1.1 ∙ map-id s.0 in
          let l : length cs ≡ length (map lift vs) = length-map s.0 code ∙ s.1.0 ∙ sym (length-map vs lift) in (
            cs,
            l,
            λ i.
                ⊎_elim
                (λ (k : i < n).
                code_same (code_at v i) (combined o cs (map lift vs) i)
                (s.1.2 i k ∙ ap (λ ds. dot (ops A) ds (map (λ w. code_at w i) vs)) (sym same) ∙ sym (plain_combined cs i)))
                (λ (k : n ≤ i).
                lift_past v h i k
                ∙ sym
                (spanned_nil_at R i (map lift vs) (combined o cs (map lift vs))
                (All-map (λ w. w i ≡ o.nil) lift vs (All-weaker _ (λ w. lift w i ≡ o.nil) (λ w h. lift_past w h i k) vs hs)) (cs, l, λ j. refl)))
                (cases_lt i n),
          )

  same_sums_from_span :
      (us vs : List (List ℕ))
      → AllByRecursion (Coded A n) us
      → AllByRecursion (Coded A n) vs
      → SameSpan o (map lift us) (map lift vs)
      → SameSums A n us vs
  same_sums_from_span us vs hu hv t =
      record {
        left = hu;
        right = hv;
        of_left = all_with _ _ (SumOfMultiples A n us) (sums_from_spanned us hu) vs hv (all_unmap _ lift vs t.0);
        of_right = all_with _ _ (SumOfMultiples A n vs) (sums_from_spanned vs hv) us hu (all_unmap _ lift us t.1);
      }

  same_span_from_sums : (us vs : List (List ℕ)) → SameSums A n us vs → SameSpan o (map lift us) (map lift vs)
  same_span_from_sums us vs t = (
    All-map _ lift vs (all_with _ _ (λ v. Spanned o (map lift us) (lift v)) (spanned_from_sums us t.left) vs t.right t.of_left),
    All-map _ lift us (all_with _ _ (λ v. Spanned o (map lift vs) (lift v)) (spanned_from_sums vs t.right) us t.left t.of_right),
  )

  pub same_sums_sym : (us vs : List (List ℕ)) → SameSums A n us vs → SameSums A n vs us
  same_sums_sym us vs t = record { left = t.right; right = t.left; of_left = t.of_right; of_right = t.of_left }

  pub same_sums_trans : (us vs ws : List (List ℕ)) → SameSums A n us vs → SameSums A n vs ws → SameSums A n us ws
  same_sums_trans us vs ws s t =
      same_sums_from_span us ws s.left t.right
      (same_span_trans R (map lift us) (map lift vs) (map lift ws) (same_span_from_sums us vs s) (same_span_from_sums vs ws t))

  pub same_sums_push :
      (us vs : List (List ℕ)) (v : List ℕ) → Coded A n v → SameSums A n us vs → SameSums A n (us ++ (v ∷ [])) (vs ++ (v ∷ []))
  same_sums_push us vs v h t =
      same_sums_from_span (us ++ (v ∷ [])) (vs ++ (v ∷ [])) (All-push _ us v t.left h) (All-push _ vs v t.right h)
      (simp map_push (same_span_push R (map lift us) (map lift vs) (lift v) (same_span_from_sums us vs t)))

  same_sums_to :
      (us vs : List (List ℕ)) (v : List ℕ)
      → Coded A n v
      → SameSums A n us vs
      → SumOfMultiples A n us v
      → SumOfMultiples A n vs v
  same_sums_to us vs v h t s =
      sums_from_spanned vs t.right v h
      (spanned_trans R (map lift vs) (map lift us) (lift v) (spanned_from_sums us t.left v h s) (same_span_from_sums us vs t).1)

  pub same_sums_iff :
      (us vs : List (List ℕ)) (v : List ℕ)
      → Coded A n v
      → SameSums A n us vs
      → SumOfMultiples A n us v ↔ SumOfMultiples A n vs v
  same_sums_iff us vs v h t = (same_sums_to us vs v h t, same_sums_to vs us v h (same_sums_sym us vs t))

  module _ (rows : List (Row (List ℕ))) (E : EchelonCodes A n rows) where
    -- an echelon form has at most n rows
    pub codes_few : length rows ≤ n
    codes_few = echelon_few (ops A) code_at n rows (λ e. (let z : ◌≡◌ {A = ℕ} 1 0 = e in omega arith)) E.echelon

    module _ (v : List ℕ) (h : Coded A n v) where
      abbrev w : List ℕ
      w = reduced_codes A n rows v

      hw : Coded A n w
      hw = reduced_coded rows v E.coded h

      lifted : (i : ℕ) → reduced o (map lift_row rows) (lift v) i ≡ lift w i
      lifted i = ap (λ u. u i) (sym (lift_reduced rows v E.coded h))

      -- reducing changes the vector by a sum of multiples of the rows
      pub codes_changes :
          (cs : List ℕ) × (length cs ≡ length (vectors rows)) × AllByRecursion (λ c. c < A.size) cs
          × ((i : ℕ)
          → code_at v i
          ≡ A.sum (dot (ops A) cs (map (λ w. code_at w i) (vectors rows))) (code_at (reduced_codes A n rows v) i))
      codes_changes =
          let t = reduced_changes R (map lift_row rows) (lift v) in
          let s = spanned_plain (vectors rows) E.coded t.0 (rw lift_vectors at t.1) in
          (s.0, s.1, s.2, λ i. cc (lift_plain v h i, ap plain (t.2 i), s.3 i, ap plain (lifted i), lift_plain w hw i))

      -- The reduced vector is zero at every pivot.
      pub codes_pivots : AllByRecursion (λ x. code_at (reduced_codes A n rows v) x.0 ≡ 0) rows
      codes_pivots =
          All-weaker _ (λ x. code_at w x.0 ≡ 0) (λ x e. unlift_nil w hw x.0 (sym (lifted x.0) ∙ e)) rows
          (all_unmap _ lift_row rows (reduced_pivots R n (map lift_row rows) (lift v) (lift_echelon rows E.echelon)))

      -- It is zero at every place exactly when the vector is a sum of multiples of the rows.
      pub codes_reduce_to_zero :
          ((i : ℕ) → i < n → code_at (reduced_codes A n rows v) i ≡ 0) ↔ SumOfMultiples A n (vectors rows) v
      codes_reduce_to_zero = (
        λ z. sums_from_spanned (vectors rows) E.coded v h
            (rw lift_vectors at (spanned_from_reduced R (map lift_row rows) (lift v) (λ i. lifted i ∙ lift_nil w hw z i))),
        λ s i l. unlift_nil w hw i
            (sym (lifted i)
            ∙ reduced_from_spanned R n (map lift_row rows) (lift v) (lift_echelon rows E.echelon)
            (rw lift_vectors (spanned_from_sums (vectors rows) E.coded v h s)) i),
      )

      -- The new row, where y is the inverse of the reduced vector's entry at p, keeps the echelon form,
      module _ (p y : ℕ) (l : p < n) (b : y < A.size) (e : A.prod (code_at (reduced_codes A n rows v) p) y ≡ 1) where
        abbrev new : List ℕ
        new = (new_row A n rows v p y).1

        new_coded : Coded A n new
        new_coded = scaled_coded w hw y b

        all_coded : AllByRecursion (Coded A n) (vectors rows ++ (new ∷ []))
        all_coded = All-push _ (vectors rows) new E.coded new_coded

        lift_inverse : o.prod (reduced o (map lift_row rows) (lift v) p) (code y) ≡ o.unit
        lift_inverse =
            ap (λ c. o.prod c (code y)) (lifted p) ∙ code_path _ _ (ap₂ A.prod (lift_plain w hw p) (plain_code y b) ∙ e)

        lift_new : lift new ≡ scaled o (code y) (reduced o (map lift_row rows) (lift v))
        lift_new = lift_scaled w hw y b ∙ ap (scaled o (code y)) (lift_reduced rows v E.coded h)

        new_one : code_at new p ≡ 1
        new_one = sym (lift_plain new new_coded p) ∙ ap plain (ap (λ u. u p) lift_new ∙ R.prod_comm _ _ ∙ lift_inverse)

        new_nil : (i : ℕ) → code_at w i ≡ 0 → code_at new i ≡ 0
        new_nil i z =
            unlift_nil new new_coded i
            (ap (λ u. u i) lift_new ∙ ap (o.prod (code y)) (lifted i ∙ code_same (code_at w i) o.nil z) ∙ prod_nil R (code y))

        pub codes_more : EchelonCodes A n (rows ++ (new_row A n rows v p y ∷ []))
        codes_more =
            record {
              coded = rw map_push all_coded;
              echelon =
                  echelon_push (ops A) code_at n rows (new_row A n rows v p y) E.echelon l new_one
                  (All-weaker _ (λ x. code_at new x.0 ≡ 0) (λ x z. new_nil x.0 z) rows codes_pivots);
            }

        -- and has with the rows the same sums of multiples as the vector has with them.
        pub codes_same : SameSums A n (vectors (rows ++ (new_row A n rows v p y ∷ []))) (vectors rows ++ (v ∷ []))
        codes_same =
            rw map_push
            (same_sums_sym (vectors rows ++ (v ∷ [])) (vectors rows ++ (new ∷ []))
            (same_sums_from_span (vectors rows ++ (v ∷ [])) (vectors rows ++ (new ∷ []))
            (All-push _ (vectors rows) v E.coded h) all_coded
            (simp map_push
            (subst₂ (λ us u. SameSpan o (us ++ (lift v ∷ [])) (us ++ (u ∷ []))) (lift_vectors rows) (sym lift_new)
            (echelon_same_span R n (map lift_row rows) (lift v) p (code y) lift_inverse)))))

        -- So rows that have the same sums of multiples as the vectors kept have them still when the vector is kept too.
        pub codes_kept :
            (kept : List (List ℕ))
            → SameSums A n (vectors rows) kept
            → SameSums A n (vectors (rows ++ (new_row A n rows v p y ∷ []))) (kept ++ (v ∷ []))
        codes_kept kept t =
            same_sums_trans (vectors (rows ++ (new_row A n rows v p y ∷ []))) (vectors rows ++ (v ∷ [])) (kept ++ (v ∷ []))
            codes_same (same_sums_push (vectors rows) kept v h t)
