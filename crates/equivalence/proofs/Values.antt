-- Values and vectors: from codes to the abstract carrier, and linearity in the children. Assumes nothing.
use Rattle.std.proofs.Common.{◌≡◌, ℕ, ◌+◌, ◌-◌, ◌<◌, ◌≤◌, List, [], ◌∷◌, ◌++◌, map, length, get_or, sym, refl, ap, ◌∙◌, ap₂, ⊎_elim, append-nil, zero-add, arith}
use mathlib.Core.Path.{fun_ext}
use mathlib.Core.List.{map-map}
use lib.ListN
use lib.ListN.{length-map}
use Rattle.std.specs.List.{AllByRecursion}
use Rattle.std.proofs.lemmas.List.{length-append, get_or_append_left, get_or-append-add, get_or-map, get_or_past}
use Rattle.std.proofs.ByRecursion.{All-weaker, all_kept_by}
use Rattle.std.proofs.lemmas.Bool.{cases_lt}
use Rattle.field.specs.Ops.{Ops, Ring, total, dot}
use Rattle.field.specs.Algebra.{Algebra, Lawful, ops}
use Rattle.field.proofs.Rings.{dot_nils}
use Rattle.field.proofs.Codes.{Code, code_path, elements, elements_ring}
use Rattle.equivalence.specs.Trees.{Tree, Forest, node, bare, more}
use Rattle.equivalence.specs.Automata.{Rule, Automaton, Sides, Sound, SoundRule, states, value, joined_vector, dimension, leading, element, along, vector, numbers}
use Rattle.equivalence.specs.Exploration.{Depends}
use Rattle.equivalence.proofs.Space.{Vector, combined, Spanned, Functional, Multilinear}
use Rattle.equivalence.proofs.Lists.{map_same, made, length_made, all_made, map_made, getD_numbers}
use Rattle.equivalence.proofs.Members.{length_numbers, all_numbers}
use Rattle.equivalence.proofs.Functionals.{functional_nil, functional_at, functional_scaled, functional_times, functional_total, linear_from_places, functional_dot, functional_places}
use Rattle.equivalence.proofs.Homomorphisms.{Homomorphism, mapped, mapped_rule, mapped_sides, value_mapped, joined_vector_mapped}

abbrev pub children : Forest → List Tree
children bare = []
children (more t f) = t ∷ children f

-- the joined vector as a function of the place, zero past its end
abbrev pub place : {K : Type 0} → Ops K → Sides K → Tree → Vector K
place o S t i = get_or (joined_vector o S t) i o.nil

-- every rule's child states are states of its automaton
abbrev pub Bounded : {K : Type 0} → Automaton K → Type 0
Bounded M = AllByRecursion (λ r. AllByRecursion (λ s. (1 ≤ s) × (s ≤ states M)) r.children) M.rules

-- s is one of n states
abbrev pub State : ℕ → ℕ → Type 0
State n s = (1 ≤ s) × (s ≤ n)

-- the element of a tree by any function that gives the same product at lists of states
pub element_by :
    {K : Type 0} (o : Ops K) (M : Automaton K)
    → Bounded M
    → (x : ℕ) (f : Forest) (g : List ℕ → K)
    → ((ss : List ℕ) → AllByRecursion (State (states M)) ss → along o M.rules f ss ≡ g ss)
    → (s : ℕ)
    → element o M.rules (node x f) s ≡ total o (map (λ r. o.prod r.weight (g r.children)) (leading M.rules x s))
element_by o M b x f g same s =
    ap (total o)
    (map_same _ _ (leading M.rules x s)
    (all_kept_by _ _ M.rules (All-weaker _ _ (λ r h. ap (o.prod r.weight) (same r.children h)) M.rules b)))

-- A side of a joined vector that begins at place n: there its state s stands at n + (s - 1).
module _ {K : Type 0} (o : Ops K) (n : ℕ) where
  abbrev read : ℕ → Vector K → K
  read s v = v (n + (s - 1))

  -- `along`, of vectors in place of trees
  abbrev across : List (Vector K) → List ℕ → K
  across [] [] = o.unit
  across [] (s ∷ ss) = o.nil
  across (v ∷ vs) [] = o.nil
  across (v ∷ vs) (s ∷ ss) = o.prod (read s v) (across vs ss)

  -- `element`, of a symbol over vectors
  abbrev reached : List (Rule K) → ℕ → List (Vector K) → ℕ → K
  reached rules x vs s = total o (map (λ r. o.prod r.weight (across vs r.children)) (leading rules x s))

  -- `value`, of a vector
  abbrev weighed : List K → Vector K → K
  weighed finals v = dot o finals (map (λ s. read s v) (numbers (length finals)))

  -- M's side stands there in the vectors of trees
  module _
      (M : Automaton K) (v : Tree → Vector K)
      (at : (t : Tree) (s : ℕ) → State (states M) s → element o M.rules t s ≡ read s (v t)) where
    along_across : (f : Forest) (ss : List ℕ) → AllByRecursion (State (states M)) ss → along o M.rules f ss ≡ across (map v (children f)) ss
    along_across bare [] h = refl
    along_across bare (s ∷ ss) h = refl
    along_across (more t f) [] h = refl
    along_across (more t f) (s ∷ ss) h = ap₂ o.prod (at t s h.0) (along_across f ss h.1)

    element_reached :
        Bounded M → (x : ℕ) (f : Forest) (s : ℕ)
        → element o M.rules (node x f) s ≡ reached M.rules x (map v (children f)) s
    element_reached b x f = element_by o M b x f _ (along_across f)

    value_weighed : (t : Tree) → value o M t ≡ weighed M.finals (v t)
    value_weighed t =
        ap (dot o M.finals) (map_same _ _ (numbers (states M)) (all_numbers _ (states M) (at t)))

  module _ (R : Ring o) where
    read_functional : (s : ℕ) → Functional o (read s)
    read_functional s = functional_at R (n + (s - 1))

    across_functional : (xs ys : List (Vector K)) (ss : List ℕ) → Functional o (λ v. across (xs ++ (v ∷ ys)) ss)
    across_functional [] ys [] = functional_nil R
    across_functional [] ys (s ∷ ss) = functional_times R (across ys ss) (read s) (read_functional s)
    across_functional (x ∷ xs) ys [] = functional_nil R
    across_functional (x ∷ xs) ys (s ∷ ss) =
        functional_scaled R (read s x) (λ v. across (xs ++ (v ∷ ys)) ss) (across_functional xs ys ss)

    reached_functional :
        (rules : List (Rule K)) (x : ℕ) (xs ys : List (Vector K)) (s : ℕ) → Functional o (λ v. reached rules x (xs ++ (v ∷ ys)) s)
    reached_functional rules x xs ys s =
        functional_total R (λ r v. o.prod r.weight (across (xs ++ (v ∷ ys)) r.children))
        (λ r. functional_scaled R r.weight (λ v. across (xs ++ (v ∷ ys)) r.children) (across_functional xs ys r.children))
        (leading rules x s)

    weighed_functional : (finals : List K) → Functional o (weighed finals)
    weighed_functional finals = functional_dot R read read_functional finals (numbers (length finals))

module _ {K : Type 0} (o : Ops K) (t : Tree) where
  length_vector : (M : Automaton K) → length (vector o M t) ≡ states M
  length_vector M = length-map (numbers (states M)) (element o M.rules t) ∙ length_numbers (states M)

  pub getD_vector : (M : Automaton K) (s : ℕ) → State (states M) s → get_or (vector o M t) (s - 1) o.nil ≡ element o M.rules t s
  getD_vector M s h =
      get_or-map (element o M.rules t) (numbers (states M)) (s - 1) 0 o.nil (omega (arith, length_numbers (states M)))
      ∙ ap (element o M.rules t) (getD_numbers (states M) s 0 h.0 h.1)

  module _ (S : Sides K) where
    place_a : (s : ℕ) → State (states S.a) s → element o S.a.rules t s ≡ place o S t (0 + (s - 1))
    place_a s h =
        sym
        (ap (place o S t) (zero-add (s - 1))
        ∙ get_or_append_left (vector o S.a t) (vector o S.b t) o.nil (s - 1) (omega (arith, length_vector S.a))
        ∙ getD_vector S.a s h)

    place_b : (s : ℕ) → State (states S.b) s → element o S.b.rules t s ≡ place o S t (states S.a + (s - 1))
    place_b s h =
        sym
        (ap (λ n. place o S t (n + (s - 1))) (sym (length_vector S.a))
        ∙ get_or-append-add (vector o S.a t) (vector o S.b t) (s - 1) o.nil
        ∙ getD_vector S.b s h)

module _ {K : Type 0} {o : Ops K} (R : Ring o) (S : Sides K) where
  -- the joined vector of a symbol over trees, from their joined vectors
  pub above : ℕ → List (Vector K) → Vector K
  above x vs i =
      get_or
      (map (reached o 0 S.a.rules x vs) (numbers (states S.a))
      ++ (map (reached o (states S.a) S.b.rules x vs) (numbers (states S.b)) ++ []))
      i o.nil

  pub above_linear : (x : ℕ) → Multilinear o (above x)
  unfolding above
  above_linear x xs ys =
      let at_a = reached_functional o 0 R S.a.rules x xs ys in
      let at_b = reached_functional o (states S.a) R S.b.rules x xs ys in
      linear_from_places R _
      (functional_places R _ at_a _
      (functional_places R _ at_b (λ v. []) (λ i. functional_nil R) (numbers (states S.b)))
      (numbers (states S.a)))

  pub place_node :
      Bounded S.a → Bounded S.b → (x : ℕ) (f : Forest) (i : ℕ)
      → place o S (node x f) i ≡ above x (map (place o S) (children f)) i
  unfolding above
  place_node ba bb x f i =
      ap₂ (λ g ys. get_or (map g (numbers (states S.a)) ++ ys) i o.nil)
      (fun_ext (element_reached o 0 S.a (place o S) (λ t. place_a o t S) ba x f))
      (ap (λ g. map g (numbers (states S.b)))
      (fun_ext (element_reached o (states S.a) S.b (place o S) (λ t. place_b o t S) bb x f))
      ∙ sym (append-nil _))

  -- the values, as functionals of the joined vector
  pub value_a : Vector K → K
  value_a v = weighed o 0 S.a.finals v

  pub value_b : Vector K → K
  value_b v = weighed o (states S.a) S.b.finals v

  pub value_a_functional : Functional o value_a
  unfolding value_a
  value_a_functional = weighed_functional o 0 R S.a.finals

  pub value_b_functional : Functional o value_b
  unfolding value_b
  value_b_functional = weighed_functional o (states S.a) R S.b.finals

  pub value_a_is : (t : Tree) → value o S.a t ≡ value_a (place o S t)
  unfolding value_a
  value_a_is t = value_weighed o 0 S.a (place o S) (λ t. place_a o t S) t

  pub value_b_is : (t : Tree) → value o S.b t ≡ value_b (place o S t)
  unfolding value_b
  value_b_is t = value_weighed o (states S.a) S.b (place o S) (λ t. place_b o t S) t

  pub place_past : (t : Tree) (i : ℕ) → dimension S ≤ i → place o S t i ≡ o.nil
  place_past t i h = get_or_past (joined_vector o S t) i o.nil (rw (length-append, length_vector o t S.a, length_vector o t S.b) h)

  combined_past :
      (cs : List K) (ts : List Tree) (i : ℕ) → dimension S ≤ i → combined o cs (map (place o S) ts) i ≡ o.nil
  combined_past cs ts i h =
      ap (dot o cs) (map-map (λ v. v i) (place o S) ts ∙ ap (λ g. map g ts) (fun_ext (λ t. place_past t i h))) ∙ dot_nils R cs ts

-- Numbers below q as codes, and what is made of such numbers as the same made of codes.
module _ (q : ℕ) where
  abbrev number : Code q → ℕ
  number c = c.0

  abbrev codes : (xs : List ℕ) → AllByRecursion (λ x. x < q) xs → List (Code q)
  codes = made (λ x. x < q) (λ x h. (x, h))

  codes_numbers : (xs : List ℕ) (h : AllByRecursion (λ x. x < q) xs) → map number (codes xs h) ≡ xs
  codes_numbers = map_made (λ x. x < q) (λ x h. (x, h)) number (λ x h. refl)

  numbers_below : (cs : List (Code q)) → AllByRecursion (λ x. x < q) (map number cs)
  numbers_below [] = tt
  numbers_below (c ∷ cs) = (c.1, numbers_below cs)

  abbrev coded_rule : {n : ℕ} (r : Rule ℕ) → SoundRule q n r → Rule (Code q)
  coded_rule r h = record { symbol = r.symbol; target = r.target; weight = (r.weight, h.weight); children = r.children }

  module _ (M : Automaton ℕ) (sound : Sound q M) where
    abbrev coded : Automaton (Code q)
    coded =
        record {
          finals = codes M.finals sound.finals;
          rules = made (SoundRule q (states M)) coded_rule M.rules sound.rules;
        }

    coded_states : states coded ≡ states M
    coded_states = length_made _ _ M.finals sound.finals

    coded_bounded : Bounded coded
    coded_bounded = all_made _ _ _ (λ r h. rw coded_states h.children) M.rules sound.rules

    coded_mapped : mapped number coded ≡ M
    coded_mapped =
        ap₂ (λ finals rules. record { finals = finals; rules = rules }) (codes_numbers M.finals sound.finals)
        (map_made _ _ (mapped_rule number) (λ r h. refl) M.rules sound.rules)

numbers_homomorphism : (A : Algebra) (L : Lawful A) → Homomorphism (elements A L) (ops A) (number A.size)
numbers_homomorphism A L = record { nil = refl; unit = refl; sum = λ x y. refl; prod = λ x y. refl }

-- Sides on codes below the size, as sides over the carrier.
module _ (A : Algebra) (L : Lawful A) (S : Sides ℕ) (sound_a : Sound A.size S.a) (sound_b : Sound A.size S.b) where
  pub lifted : Sides (Code A.size)
  lifted = record { ranks = S.ranks; a = coded A.size S.a sound_a; b = coded A.size S.b sound_b }

  lifted_mapped : mapped_sides (number A.size) lifted ≡ S
  unfolding lifted
  lifted_mapped =
      ap₂ (λ a b. record { ranks = S.ranks; a = a; b = b }) (coded_mapped A.size S.a sound_a)
      (coded_mapped A.size S.b sound_b)

  pub lifted_a_bounded : Bounded lifted.a
  unfolding lifted
  lifted_a_bounded = coded_bounded A.size S.a sound_a

  pub lifted_b_bounded : Bounded lifted.b
  unfolding lifted
  lifted_b_bounded = coded_bounded A.size S.b sound_b

  pub lifted_dimension : dimension lifted ≡ dimension S
  unfolding lifted
  lifted_dimension = ap₂ ◌+◌ (coded_states A.size S.a sound_a) (coded_states A.size S.b sound_b)

  pub lifted_value_a : (t : Tree) → value (ops A) S.a t ≡ (value (elements A L) lifted.a t).0
  lifted_value_a t = ap (λ S. value (ops A) S.a t) (sym lifted_mapped) ∙ value_mapped (numbers_homomorphism A L) lifted.a t

  pub lifted_value_b : (t : Tree) → value (ops A) S.b t ≡ (value (elements A L) lifted.b t).0
  lifted_value_b t = ap (λ S. value (ops A) S.b t) (sym lifted_mapped) ∙ value_mapped (numbers_homomorphism A L) lifted.b t

  pub lifted_place : (t : Tree) (i : ℕ) → get_or (joined_vector (ops A) S t) i 0 ≡ (place (elements A L) lifted t i).0
  lifted_place t i =
      ap (λ v. get_or v i 0) (ap (λ S. joined_vector (ops A) S t) (sym lifted_mapped) ∙ joined_vector_mapped (numbers_homomorphism A L) lifted t)
      ∙ ListN.get_or-map (number A.size) (joined_vector (elements A L) lifted t) i (elements A L).nil

  lifted_combined :
      (cs : List (Code A.size)) (kept : List Tree) (i : ℕ)
      → dot (ops A) (map (number A.size) cs) (map (λ w. get_or w i 0) (map (joined_vector (ops A) S) kept))
      ≡ (combined (elements A L) cs (map (place (elements A L) lifted) kept) i).0
  lifted_combined [] kept i = refl
  lifted_combined (c ∷ cs) [] i = refl
  lifted_combined (c ∷ cs) (t ∷ ts) i =
      ap₂ (λ x y. A.sum (A.prod c.0 x) y) (lifted_place t i) (lifted_combined cs ts i)

  depends_place :
      (kept : List Tree) (t : Tree) (d : Depends A S kept t) (i : ℕ)
      → place (elements A L) lifted t i
      ≡ combined (elements A L) (codes A.size d.0 d.1.1) (map (place (elements A L) lifted) kept) i
  depends_place kept t d i =
      let R = elements_ring A L in
      let cs = codes A.size d.0 d.1.1 in
      ⊎_elim
      (λ l.
      code_path _ _
      (sym (lifted_place t i) ∙ d.1.2 i l ∙ ap (λ xs. dot (ops A) xs _) (sym (codes_numbers A.size d.0 d.1.1))
      ∙ lifted_combined cs kept i))
      (λ h. let past = rw (← lifted_dimension) at h in place_past R lifted t i past ∙ sym (combined_past R lifted cs kept i past))
      (cases_lt i (dimension S))

  -- to depend on the kept trees is to lie in the span of their vectors
  pub depends_spanned :
      (kept : List Tree) (t : Tree)
      → Depends A S kept t
      → Spanned (elements A L) (map (place (elements A L) lifted) kept) (place (elements A L) lifted t)
  depends_spanned kept t d =
      let same = length-map kept _ ∙ sym (length-map kept _) in
      (codes A.size d.0 d.1.1, length_made _ _ d.0 d.1.1 ∙ d.1.0 ∙ same, depends_place kept t d)

  pub spanned_depends :
      (kept : List Tree) (t : Tree)
      → Spanned (elements A L) (map (place (elements A L) lifted) kept) (place (elements A L) lifted t)
      → Depends A S kept t
  spanned_depends kept t s =
      let same = length-map kept _ ∙ sym (length-map kept _) in
      let below = numbers_below A.size s.0 in (
        map (number A.size) s.0,
        (length-map s.0 _ ∙ s.1 ∙ same, below, λ i l. lifted_place t i ∙ ap (number A.size) (s.2 i) ∙ sym (lifted_combined s.0 kept i)),
      )
