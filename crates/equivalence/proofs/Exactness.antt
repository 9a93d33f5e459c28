-- The theorems: an exploration that ends with equal has reached the vectors of all trees, and one that ends with differs
-- those of all lower trees. Assumes nothing.
use Rattle.std.proofs.Common.{◌≡◌, ℕ, zero, suc, ◌<◌, ◌≤◌, leb, List, [], ◌∷◌, ◌++◌, map, length, get_or, take, filter, sym, refl, ap, ◌∙◌, subst, ap₂, subst₂, ⊎_elim, le_refl, arith, length-append}
use lib.ListN.{length-map}
use Rattle.std.specs.List.{ContainsAt as Has, AllByRecursion}
use Rattle.std.proofs.lemmas.List.{length_push, get_or_append_left, get_or_push, map_push, take-append-le, take_at}
use Rattle.std.proofs.ByRecursion.{All-map, All-weaker, All-get_or, All-from_get_or, all-has, has_append_left, has_push}
use Rattle.std.proofs.lemmas.Bool.{cases_lt, cases_eq, le-leb, leb-true}
use Rattle.field.specs.Algebra.{Algebra, Lawful, ops}
use Rattle.field.specs.Ops.{Ops, Ring}
use Rattle.field.proofs.Codes.{Code, code_path, elements, elements_ring, elements_inverse, elements_decide}
use Rattle.equivalence.specs.Trees.{Tree, Forest, node, bare, more, rank, Declared, Over, AllOver, width, height, highest}
use Rattle.equivalence.specs.Automata.{Sides, Sound, value, dimension}
use Rattle.equivalence.specs.Entries.{named, last_of}
use Rattle.equivalence.specs.Tries.{Try, turns}
use Rattle.equivalence.specs.Exploration.{built, Differ, Depends, next, EndedDiffers, EndedEqual, GoesOn, Explored, Equivalent}
use Rattle.equivalence.specs.Theorems.{LowestDifference, Bounds, EqualIsExact, DiffersIsExactAndLowest, VerdictIsExact, AlwaysBounded}
use Rattle.equivalence.proofs.Kept.{tall, Rising, named_more}
use Rattle.equivalence.proofs.Members.{all_from_has, has_kept_by, kept_by_has, has_map, map_has}
use Rattle.equivalence.proofs.Order.{Within, Placed, placed, turns_stay, turns_length, all_tries_mono, taken}
use Rattle.equivalence.proofs.Progress.{Grown, next_grown, next_highest, grown_none, grown_same, grown_kept}
use Rattle.equivalence.proofs.Space.{Vector, Spanned}
use Rattle.equivalence.proofs.Spans.{spanned_member, spanned_trans, functionals_agree, spanned_rows, independent_few}
use Rattle.equivalence.proofs.Values.{Bounded, children, place, above, above_linear, place_node, value_a, value_b, value_a_functional, value_b_functional, value_a_is, value_b_is, place_past, lifted, lifted_a_bounded, lifted_b_bounded, lifted_dimension, lifted_value_a, lifted_value_b, depends_spanned, spanned_depends}

-- the trees no higher than h
abbrev low : ℕ → List Tree → List Tree
low h kept = filter (λ t. leb (height t) h) kept

abbrev none_yet : Try
none_yet = record { symbol = 0; row = [] }

pub last_push : (ts : List Tree) (t : Tree) → last_of (ts ++ (t ∷ [])) ≡ t
last_push [] t = refl
last_push (u ∷ []) t = refl
last_push (u ∷ v ∷ ts) t = last_push (v ∷ ts) t

last_is : (ts : List Tree) (i : ℕ) (d : Tree) → suc i ≡ length ts → last_of ts ≡ get_or ts i d
last_is [] i d e = absurd (omega arith)
last_is (t ∷ []) zero d e = refl
last_is (t ∷ []) (suc i) d e = absurd (omega arith)
last_is (t ∷ u ∷ ts) zero d e = absurd (omega arith)
last_is (t ∷ u ∷ ts) (suc i) d e = last_is (u ∷ ts) i d (omega arith)

height_positive : (t : Tree) → 1 ≤ height t
height_positive (node s f) = omega arith

-- in rising order, trees lower than the one after the i-th are among the first i
within_lower :
    (kept : List Tree) (i : ℕ) (row : List ℕ)
    → Rising kept
    → suc i ≤ length kept
    → Within (length kept) row
    → highest (named kept row) < tall kept (suc i)
    → Within i row
within_lower kept i [] r l w h = tt
within_lower kept i (zero ∷ row) r l w h = absurd (let p = w.0.0 in omega arith)
within_lower kept i (suc c ∷ row) r l w h = (
  (
    omega arith,
    ⊎_elim (λ (m : i < suc c). absurd (let u = r (suc i) (suc c) m w.0.1 in omega arith)) (λ (m : suc c ≤ i). m)
        (cases_lt i (suc c)),
  ),
  within_lower kept i row r l w.1 (omega arith),
)

children_length : (f : Forest) → length (children f) ≡ width f
children_length bare = refl
children_length (more t f) = ap suc (children_length f)

all_children :
    (ranks : List ℕ) (g : ℕ) (Q : Tree → Type 0)
    → ((t : Tree) → Over ranks t → height t ≤ g → Q t)
    → (f : Forest)
    → AllOver ranks f
    → highest f ≤ g
    → AllByRecursion Q (children f)
all_children ranks g Q h bare over l = tt
all_children ranks g Q h (more t f) over l = (h t over.0 (omega arith), all_children ranks g Q h f over.1 (omega arith))

module _ (A : Algebra) (L : Lawful A) (S : Sides ℕ) (sa : Sound A.size S.a) (sb : Sound A.size S.b) where
  abbrev K : Type 0
  K = Code A.size

  abbrev o : Ops K
  o = elements A L

  abbrev R : Ring o
  R = elements_ring A L

  abbrev Ŝ : Sides K
  Ŝ = lifted A L S sa sb

  abbrev P : Tree → Vector K
  P = place o Ŝ

  abbrev Agree : Tree → Type 0
  Agree t = value (ops A) S.a t ≡ value (ops A) S.b t

  abbrev nth_try : List Tree → ℕ → Try
  nth_try kept j = get_or (turns S.ranks (length kept)) j none_yet

  -- the vector is spanned by those of the kept trees no higher than h
  abbrev Low : ℕ → List Tree → Vector K → Type 0
  Low h kept v = Spanned o (map P (low h kept)) v

  spanned_more :
      (us ws : List Tree) (v : Vector K) → ((u : Tree) → Has us u → Has ws u) → Spanned o (map P us) v → Spanned o (map P ws) v
  spanned_more us ws v h s =
      spanned_trans R (map P ws) (map P us) v s
      (all_from_has (Spanned o (map P ws)) (map P us)
      (λ w m. let u = map_has P us w m in spanned_member R (map P ws) w (subst (Has (map P ws)) u.2 (has_map P ws u.0 (h u.0 u.1)))))

  low_more : (g h : ℕ) (us ws : List Tree) (v : Vector K) → g ≤ h → ((u : Tree) → Has us u → Has ws u) → Low g us v → Low h ws v
  low_more g h us ws v l m s =
      spanned_more (low g us) (low h ws) v
      (λ u k.
      let c = kept_by_has (λ t. leb (height t) g) us u k in
      let b = leb-true (height u) g c.1 in
      has_kept_by (λ t. leb (height t) h) ws u (m u c.0) (le-leb (height u) h (omega arith)))
      s

  spanned_as : (vs : List (Vector K)) (v w : Vector K) → ((i : ℕ) → v i ≡ w i) → Spanned o vs v → Spanned o vs w
  spanned_as vs v w e s = (s.0, s.1, λ i. sym (e i) ∙ s.2 i)

  bounded_a : Bounded Ŝ.a
  bounded_a = lifted_a_bounded A L S sa sb

  bounded_b : Bounded Ŝ.b
  bounded_b = lifted_b_bounded A L S sa sb

  -- What is known of n tries that led to the kept trees: the vector of each tree tried is spanned by those of kept trees
  -- that are no higher; all but the last kept agree in their values; and no kept tree's vector is spanned by those before.
  record Known (n : ℕ) (kept : List Tree) : Type 0 where
    grown : Grown S.ranks n kept
    done : (j : ℕ) → j < n → let t = built kept (nth_try kept j) in Low (height t) kept (P t)
    agree : (i : ℕ) → suc i < length kept → (d : Tree) → Agree (get_or kept i d)
    free : (j : ℕ) (d : Vector K) → j < length kept → Spanned o (take j (map P kept)) (get_or (map P kept) j d) → ⊥

  all_agree : (n : ℕ) (kept : List Tree) → Known n kept → (EndedDiffers A S kept → ⊥) → AllByRecursion Agree kept
  all_agree n kept k on =
      All-from_get_or Agree kept (node 0 bare)
      (λ i l.
      ⊎_elim (λ (m : suc i < length kept). k.agree i m (node 0 bare))
      (λ (m : length kept ≤ suc i).
      let e = last_is kept i (node 0 bare) (omega arith) in
      ⊎_elim (λ (a : value (ops A) S.a (get_or kept i (node 0 bare)) ≡ value (ops A) S.b (get_or kept i (node 0 bare))). a)
      (λ ne. absurd (on (omega arith, λ a. ne (subst Agree e a))))
      (cases_eq (value (ops A) S.a (get_or kept i (node 0 bare))) (value (ops A) S.b (get_or kept i (node 0 bare)))))
      (cases_lt (suc i) (length kept)))

  -- a tree that was tried stays the same as more trees are kept
  built_stays :
      (n j : ℕ) (kept later : List Tree)
      → Grown S.ranks n kept
      → j < length (turns S.ranks (length kept))
      → built (kept ++ later) (nth_try (kept ++ later) j) ≡ built kept (nth_try kept j)
  built_stays n j kept later g l =
      let y = nth_try kept j in
      let p = placed S.ranks (length kept) j none_yet l in
      let more = length-append kept later in
      ap (built (kept ++ later)) (turns_stay S.ranks (length kept) (length (kept ++ later)) j none_yet (omega arith) l)
      ∙ ap (node y.symbol)
      (named_more kept later y.row (All-weaker _ _ (λ c h. (h.0, let m = p.at_most in omega arith)) y.row p.within))

  free_push :
      (vs : List (Vector K)) (v : Vector K)
      → ((j : ℕ) (d : Vector K) → j < length vs → Spanned o (take j vs) (get_or vs j d) → ⊥)
      → (Spanned o vs v → ⊥)
      → (j : ℕ) (d : Vector K)
      → j < length (vs ++ (v ∷ []))
      → Spanned o (take j (vs ++ (v ∷ []))) (get_or (vs ++ (v ∷ [])) j d)
      → ⊥
  free_push vs v h new j d l s =
      let e = length_push vs v in
      ⊎_elim
      (λ (m : j < length vs).
      h j d m
      (subst₂ (Spanned o) (take-append-le j vs (v ∷ []) (omega arith)) (get_or_append_left vs (v ∷ []) d j m) s))
      (λ (m : length vs ≤ j).
      let q : length vs ≡ j = omega arith in new (subst₂ (Spanned o) (take_at vs (v ∷ []) j q) (get_or_push vs v d j q) s))
      (cases_lt j (length vs))

  known_kept :
      (n : ℕ) (kept : List Tree)
      → Known n kept
      → GoesOn A S n kept
      → let t = built kept (next S.ranks n kept) in (Depends A S kept t → ⊥) → Known (suc n) (kept ++ (t ∷ []))
  known_kept n kept k on new =
      let t = built kept (next S.ranks n kept) in
      let after = kept ++ (t ∷ []) in
      let g = k.grown in
      let m = g.made in
      let left = on.1 in
      let e = length_push kept t in
      record {
        grown = grown_kept S.ranks n kept g left;
        done =
            λ j l.
            ⊎_elim
            (λ (b : j < n).
            subst (λ u. Low (height u) after (P u)) (sym (built_stays n j kept (t ∷ []) g (omega arith)))
            (low_more _ _ kept after _ (le_refl _) (λ u c. has_append_left kept (t ∷ []) u c) (k.done j b)))
            (λ (b : n ≤ j).
            let q : j ≡ n = omega arith in
            subst (λ u. Low (height u) after (P u)) (sym (ap (λ i. built after (nth_try after i)) q ∙ built_stays n n kept (t ∷ []) g left))
            (spanned_member R (map P (low (height t) after)) (P t)
            (has_map P (low (height t) after) t (has_kept_by _ after t (has_push kept t) (le-leb (height t) (height t) (le_refl _))))))
            (cases_lt j n);
        agree = λ i l d. subst Agree (sym (get_or_append_left kept (t ∷ []) d i (omega arith))) (All-get_or Agree kept i d (omega arith) (all_agree n kept k on.0));
        free =
            λ j d l s.
            let q = map_push P kept t in
            free_push (map P kept) (P t) (λ i f h. k.free i f (rw length-map at h)) (λ h. new (spanned_depends A L S sa sb kept t h)) j d
            (rw (length_push, length-map) (omega arith)) (subst (λ vs. Spanned o (take j vs) (get_or vs j d)) q s);
      }

  known_same :
      (n : ℕ) (kept : List Tree)
      → Known n kept
      → GoesOn A S n kept
      → Depends A S kept (built kept (next S.ranks n kept))
      → Known (suc n) kept
  known_same n kept k on dep =
      let t = built kept (next S.ranks n kept) in
      let none_higher = next_highest S.ranks n kept k.grown (next_grown S.ranks n kept k.grown on.1) in
      record {
        grown = grown_same S.ranks n kept k.grown on.1;
        done =
            λ j l.
            ⊎_elim (λ (b : j < n). k.done j b)
            (λ (b : n ≤ j).
            let q : n ≡ j = omega arith in
            subst (λ i. let u = built kept (nth_try kept i) in Low (height u) kept (P u)) q
            (spanned_more kept (low (height t) kept) (P t)
            (λ u m. has_kept_by _ kept u m (le-leb (height u) (height t) (all-has (λ w. height w ≤ height t) kept u none_higher m)))
            (depends_spanned A L S sa sb kept t dep)))
            (cases_lt j n);
        agree = k.agree;
        free = k.free;
      }

  known_none : Known 0 []
  known_none =
      record {
        grown = grown_none S.ranks;
        done = λ j l. absurd (omega arith);
        agree = λ i l d. absurd (omega arith);
        free = λ j d l s. omega arith;
      }

  known : (n : ℕ) (kept : List Tree) → Explored A S n kept → Known n kept
  known zero kept e = subst (Known 0) (sym e) known_none
  known (suc n) kept e =
      let k = known n e.0 e.1 in
      ⊎_elim (λ h. subst (Known (suc n)) (sym h.1) (known_kept n e.0 k e.2 h.0))
      (λ h. subst (Known (suc n)) (sym h.1) (known_same n e.0 k e.2 h.0))
      e.3

  -- every row of kept trees that are less than h high was tried
  abbrev TriedAll : ℕ → List Tree → ℕ → Type 0
  TriedAll n kept h =
      (s : ℕ) (row : List ℕ)
      → Declared S.ranks s
      → length row ≡ rank S.ranks s
      → Within (length kept) row
      → highest (named kept row) < h
      → (j : ℕ) × (j < n) × (nth_try kept j ≡ record { symbol = s; row = row })

  -- a row of vectors of kept trees no higher than g is that of a row of their numbers
  numbered :
      (kept : List Tree) (g : ℕ) (row : List (Vector K))
      → AllByRecursion (Has (map P (low g kept))) row
      → (cs : List ℕ)
      × (length cs ≡ length row)
      × Within (length kept) cs
      × (highest (named kept cs) ≤ g)
      × (map P (children (named kept cs)) ≡ row)
  numbered kept g [] h = ([], refl, tt, omega arith, refl)
  numbered kept g (v ∷ row) h =
      let r = numbered kept g row h.1 in
      let u = map_has P (low g kept) v h.0 in
      let m = kept_by_has (λ t. leb (height t) g) kept u.0 u.1 in
      let at = m.0.2 (node 0 bare) in
      let b = leb-true (height u.0) g m.1 in
      let tallness : height (get_or kept m.0.0 (node 0 bare)) ≡ height u.0 = ap height at in
      let below = r.3 in
      let here = m.0.1 in (
        suc m.0.0 ∷ r.0,
        ap suc r.1,
        ((omega arith, here), r.2),
        omega arith,
        ap₂ ◌∷◌ (ap P at ∙ u.2) r.4,
      )

  -- Where every row of kept trees less than h high was tried, the kept trees up to that height span the vector of each tree
  -- up to that height.
  closed :
      (n : ℕ) (kept : List Tree)
      → Known n kept
      → (h : ℕ)
      → TriedAll n kept h
      → (t : Tree)
      → Over S.ranks t
      → height t ≤ h
      → Low h kept (P t)
  closed n kept k zero all (node s f) over l = absurd (omega arith)
  closed n kept k (suc g) all (node s f) over l =
      let inner : TriedAll n kept g = λ x row d e w b. all x row d e w (omega arith) in
      let kids : AllByRecursion (λ t. Low g kept (P t)) (children f) =
      all_children S.ranks g (λ t. Low g kept (P t)) (closed n kept k g inner) f over.2 (omega arith) in
      let rows : (row : List (Vector K)) → length row ≡ rank S.ranks s → AllByRecursion (Has (map P (low g kept))) row → Low (suc g) kept (above R Ŝ s row) =
      λ row e m.
      let c = numbered kept g row m in
      let low_enough = c.3 in
      let y = all s c.0 over.0 (c.1 ∙ e) c.2 (omega arith) in
      let tried = k.done y.0 y.1 in
      let tree : built kept (nth_try kept y.0) ≡ node s (named kept c.0) = ap (built kept) y.2 in
      let spanned = subst (λ t. Low (height t) kept (P t)) tree tried in
      spanned_as _ _ _ (λ i. place_node R Ŝ bounded_a bounded_b s (named kept c.0) i ∙ ap (λ vs. above R Ŝ s vs i) c.4)
      (low_more _ (suc g) kept kept _ (omega arith) (λ u q. q) spanned) in
      spanned_as _ _ _ (λ i. sym (place_node R Ŝ bounded_a bounded_b s f i))
      (spanned_rows R (above R Ŝ s) (above_linear R Ŝ s) (map P (low (suc g) kept)) (map P (low g kept)) (rank S.ranks s) rows
      (map P (children f)) (length-map (children f) P ∙ children_length f ∙ over.1) (All-map _ P (children f) kids))

  on_carrier : (t : Tree) → Agree t → value_a R Ŝ (P t) ≡ value_b R Ŝ (P t)
  on_carrier t e =
      sym (value_a_is R Ŝ t)
      ∙ code_path _ _ (sym (lifted_value_a A L S sa sb t) ∙ e ∙ lifted_value_b A L S sa sb t)
      ∙ value_b_is R Ŝ t

  -- values agree where those of the spanning trees do
  agree_spanned : (us : List Tree) (t : Tree) → AllByRecursion Agree us → Spanned o (map P us) (P t) → Agree t
  agree_spanned us t a s =
      lifted_value_a A L S sa sb t
      ∙ ap (λ (c : K). c.0)
      (value_a_is R Ŝ t
      ∙ functionals_agree R (value_a R Ŝ) (value_b R Ŝ) (value_a_functional R Ŝ) (value_b_functional R Ŝ) (map P us) (P t)
      (All-map _ P us (All-weaker _ _ on_carrier us a)) s
      ∙ sym (value_b_is R Ŝ t))
      ∙ sym (lifted_value_b A L S sa sb t)

  agree_low :
      (n : ℕ) (kept : List Tree)
      → Known n kept
      → AllByRecursion Agree kept
      → (t : Tree)
      → Over S.ranks t
      → TriedAll n kept (height t)
      → Agree t
  agree_low n kept k a t over all =
      agree_spanned (low (height t) kept) t
      (all_from_has Agree (low (height t) kept) (λ u m. all-has Agree kept u a (kept_by_has _ kept u m).0))
      (closed n kept k (height t) all t over (le_refl _))

  pub equal_is_exact : (n : ℕ) (kept : List Tree) → Explored A S n kept → EndedEqual A S n kept → Equivalent A S
  equal_is_exact n kept e end t over =
      let k = known n kept e in
      let through : length (turns S.ranks (length kept)) ≤ n =
      ⊎_elim (λ l. absurd (end.1 l)) (λ l. l) (cases_lt n (length (turns S.ranks (length kept)))) in
      agree_low n kept k (all_agree n kept k end.0) t over
      (λ s row d l w b. let y = taken S.ranks (length kept) s row d l w in (y.0, (let h = y.1 in omega arith), y.2 none_yet))

  -- rows of trees lower than that of the turn's number were all tried before the turn
  tried_before :
      (n : ℕ) (kept : List Tree) (y : Try) (at : ℕ) (p : Placed S.ranks (length kept) n y)
      → Rising kept
      → p.at ≡ at
      → (h : ℕ)
      → 1 ≤ h
      → h ≤ tall kept at
      → TriedAll n kept h
  tried_before n kept y zero p r e h one l = absurd (omega arith)
  tried_before n kept y (suc i) p r e h one l =
      λ s row d len w b.
      let most = p.at_most in
      let z = taken S.ranks i s row d len (within_lower kept i row r (omega arith) w (omega arith)) in
      let made = p.after i (omega arith) in
      let early = z.1 in (
        z.0,
        omega arith,
        turns_stay S.ranks i (length kept) z.0 none_yet (omega arith) early ∙ z.2 none_yet,
      )

  pub differs_is_lowest :
      (n : ℕ) (kept : List Tree) → Explored A S n kept → EndedDiffers A S kept → LowestDifference A S (last_of kept)
  differs_is_lowest zero kept e end = absurd (let z = ap length e in let l = end.0 in omega arith)
  differs_is_lowest (suc n) kept e end =
      ⊎_elim
      (λ h.
      let before = e.0 in
      let k = known n before e.1 in
      let x = next_grown S.ranks n before k.grown e.2.1 in
      let t = built before (next S.ranks n before) in
      let shown : last_of kept ≡ t = ap last_of h.1 ∙ last_push before t in
      subst (LowestDifference A S) (sym shown)
      (record {
        over = x.over;
        differ = subst (Differ A S) shown end.1;
        lowest =
            λ u over du.
            ⊎_elim
            (λ (lower : height u < height t).
            let high = x.high in
            absurd
            (du
            (agree_low n before k (all_agree n before k e.2.0) u over
            (tried_before n before _ x.place.at x.place k.grown.rising refl (height u) (height_positive u) (omega arith)))))
            (λ (l : height t ≤ height u). l)
            (cases_lt (height u) (height t));
      }))
      (λ h. absurd (e.2.0 (subst (EndedDiffers A S) h.1 end)))
      e.3

  pub bounds : (n : ℕ) (kept : List Tree) → Explored A S n kept → Bounds A S n kept
  bounds n kept e =
      let k = known n kept e in
      let few : length kept ≤ dimension S =
      rw length-map at
      (independent_few R (elements_inverse A L) (elements_decide A L) (dimension S) (map P kept)
      (All-map _ P kept
      (all_from_has _ kept (λ t m i l. place_past R Ŝ t i (rw (lifted_dimension A L S sa sb) l))))
      (λ j d l s. k.free j d (rw length-map at l) s)) in
      record {
        tries =
            let m = k.grown.made in
            let c = turns_length S.ranks (length kept) in
            let g = all_tries_mono S.ranks (length kept) (dimension S) few in omega arith;
        trees = few;
        next = λ nd ne. ⊎_elim (λ l. l) (λ l. absurd (ne (nd, λ m. omega arith))) (cases_lt n (length (turns S.ranks (length kept))));
      }

-- The theorems, in the words of specs/.
pub equal_exact : EqualIsExact
equal_exact A S n kept r = equal_is_exact A r.lawful S r.sound_a r.sound_b n kept r.explored

pub differs_exact_and_lowest : DiffersIsExactAndLowest
differs_exact_and_lowest A S n kept r = differs_is_lowest A r.lawful S r.sound_a r.sound_b n kept r.explored

pub always_within : AlwaysBounded
always_within A S n kept r = bounds A r.lawful S r.sound_a r.sound_b n kept r.explored

pub verdict_exact : VerdictIsExact
verdict_exact A S n kept r end = (
  equal_exact A S n kept r,
  λ same.
      ⊎_elim (λ e. e)
      (λ d. let t = differs_exact_and_lowest A S n kept r d in absurd (t.differ (same (last_of kept) t.over)))
      end,
)
