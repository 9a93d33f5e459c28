-- Vectors worked out entry by entry are those of the entries' trees. Assumes nothing.
use Rattle.std.proofs.Common.{◌≡◌, ℕ, zero, suc, ◌+◌, ◌-◌, ◌≤◌, List, [], ◌∷◌, ◌++◌, map, length, get_or, take, drop, sym, refl, ap, ◌∙◌, ap₂, add-one, arith, take-append-drop}
use mathlib.Core.Path.{fun_ext}
use Rattle.std.specs.List.{AllByRecursion}
use Rattle.std.proofs.lemmas.List.{get_or-map, map_push, length_push}
use Rattle.std.proofs.ByRecursion.{All-append, All-weaker}
use Rattle.field.specs.Ops.{Ops, dot}
use Rattle.field.specs.Algebra.{ops}
use Rattle.equivalence.specs.Trees.{Tree, node, bare, rank}
use Rattle.equivalence.specs.Automata.{Automaton, Sound, states, along, vector, value, numbers}
use Rattle.equivalence.specs.Entries.{Entry, LaidOut, LaidOutFrom, WellFormed, named, grown, trees, last_of, tree_of}
use Rattle.equivalence.specs.Theorems.{ValuesOfEntries}
use Rattle.equivalence.specs.Valuing.{through, entry_vector, vectors_from, vectors_of, last_or, value_of}
use Rattle.equivalence.proofs.Values.{Bounded, State, getD_vector, element_by}

pub length_grown : (ts : List Tree) (es : List Entry) → length (grown ts es) ≡ length ts + length es
length_grown ts [] = omega arith
length_grown ts (e ∷ es) =
    let t : Tree = node e.symbol (named ts e.children) in
    omega (arith, length_grown (ts ++ (t ∷ [])) es, length_push ts t)

-- one more entry: its tree comes last
pub grown_push :
    (ts : List Tree) (es : List Entry) (e : Entry)
    → grown ts (es ++ (e ∷ [])) ≡ grown ts es ++ (node e.symbol (named (grown ts es) e.children) ∷ [])
grown_push ts [] e = refl
grown_push ts (d ∷ es) e = grown_push (ts ++ (node d.symbol (named ts d.children) ∷ [])) es e

pub trees_push :
    (es : List Entry) (e : Entry) → trees (es ++ (e ∷ [])) ≡ trees es ++ (node e.symbol (named (trees es) e.children) ∷ [])
trees_push = grown_push []

last_map : {X : Type 0} (f : Tree → X) (x : X) (ts : List Tree) → 1 ≤ length ts → last_or x (map f ts) ≡ f (last_of ts)
last_map f x [] h = absurd (omega arith)
last_map f x (t ∷ []) h = refl
last_map f x (t ∷ u ∷ ts) h = last_map f x (u ∷ ts) (omega arith)

-- every child number of an entry is 0 or names an earlier entry
pub children_earlier : (ranks : List ℕ) (n : ℕ) (e : Entry) → LaidOut ranks n e → AllByRecursion (λ c. c ≤ n) e.children
children_earlier ranks n e h =
    let k = rank ranks e.symbol in
    rw (← take-append-drop k e.children)
    (All-append _ (take k e.children) (drop k e.children) (All-weaker _ _ (λ c l. l.1) _ h.named)
    (All-weaker _ _ (λ c z. omega arith) _ h.rest))

module _ {K : Type 0} (o : Ops K) (M : Automaton K) where
  -- one more entry: its vector comes last
  pub vectors_from_push :
      (vs : List (List K)) (es : List Entry) (e : Entry)
      → vectors_from o M vs (es ++ (e ∷ [])) ≡ vectors_from o M vs es ++ (entry_vector o M (vectors_from o M vs es) e ∷ [])
  vectors_from_push vs [] e = refl
  vectors_from_push vs (d ∷ es) e = vectors_from_push (vs ++ (entry_vector o M vs d ∷ [])) es e

  pub vectors_push :
      (es : List Entry) (e : Entry)
      → vectors_of o M (es ++ (e ∷ [])) ≡ vectors_of o M es ++ (entry_vector o M (vectors_of o M es) e ∷ [])
  vectors_push = vectors_from_push []

  along_through :
      (ts : List Tree) (cs ss : List ℕ)
      → AllByRecursion (λ c. c ≤ length ts) cs
      → AllByRecursion (State (states M)) ss
      → along o M.rules (named ts cs) ss ≡ through o (map (vector o M) ts) cs ss
  along_through ts [] [] h k = refl
  along_through ts [] (s ∷ ss) h k = refl
  along_through ts (zero ∷ cs) [] h k = refl
  along_through ts (zero ∷ cs) (s ∷ ss) h k = refl
  along_through ts (suc c ∷ cs) [] h k = refl
  along_through ts (suc c ∷ cs) (s ∷ ss) h k =
      let t : Tree = get_or ts c (node 0 bare) in
      ap₂ o.prod
      (sym (ap (λ v. get_or v (s - 1) o.nil) (get_or-map (vector o M) ts c (node 0 bare) [] h.0) ∙ getD_vector o t M s k.0))
      (along_through ts cs ss h.1 k.1)

  module _ (bounded : Bounded M) (ranks : List ℕ) where
    pub vector_entry :
        (ts : List Tree) (e : Entry)
        → LaidOut ranks (length ts) e
        → vector o M (node e.symbol (named ts e.children)) ≡ entry_vector o M (map (vector o M) ts) e
    vector_entry ts e h =
        let earlier = children_earlier ranks (length ts) e h in
        ap (λ g. map g (numbers (states M)))
        (fun_ext (element_by o M bounded e.symbol (named ts e.children) _ (λ ss. along_through ts e.children ss earlier)))

    pub vectors_grown :
        (ts : List Tree) (es : List Entry)
        → LaidOutFrom ranks (length ts) es
        → vectors_from o M (map (vector o M) ts) es ≡ map (vector o M) (grown ts es)
    vectors_grown ts [] h = refl
    vectors_grown ts (e ∷ es) h =
        let t : Tree = node e.symbol (named ts e.children) in
        let longer : length (ts ++ (t ∷ [])) ≡ suc (length ts) = length_push ts t ∙ add-one _ in
        ap (λ v. vectors_from o M (map (vector o M) ts ++ (v ∷ [])) es) (sym (vector_entry ts e h.0))
        ∙ ap (λ vs. vectors_from o M vs es) (sym (map_push (vector o M) ts t))
        ∙ vectors_grown (ts ++ (t ∷ [])) es (rw longer h.1)

    pub vectors_trees : (es : List Entry) → WellFormed ranks es → vectors_of o M es ≡ map (vector o M) (trees es)
    vectors_trees es h = vectors_grown [] es h.entries

    pub value_tree : (es : List Entry) → WellFormed ranks es → value_of o M es ≡ value o M (tree_of es)
    value_tree es h =
        let some : 1 ≤ length (trees es) = omega (arith, length_grown [] es, h.some) in
        ap (λ vs. dot o M.finals (last_or [] vs)) (vectors_trees es h)
        ∙ ap (dot o M.finals) (last_map (vector o M) [] (trees es) some)

pub sound_bounded : (q : ℕ) (M : Automaton ℕ) → Sound q M → Bounded M
sound_bounded q M h = All-weaker _ _ (λ r k. k.children) M.rules h.rules

pub entries_valued : ValuesOfEntries
entries_valued A M ranks es sound h =
    let bounded = sound_bounded A.size M sound in
    let tree = value_tree (ops A) M bounded ranks es h in
    record {
      vectors = vectors_trees (ops A) M bounded ranks es h;
      tree = tree;
      same = λ fs k e. tree ∙ ap (value (ops A) M) e ∙ sym (value_tree (ops A) M bounded ranks fs k);
    }
