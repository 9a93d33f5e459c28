-- Values and vectors under a homomorphism of operations. Assumes nothing.
use Rattle.std.proofs.Common.{◌≡◌, ℕ, List, [], ◌∷◌, ◌++◌, map, sym, ap, ◌∙◌, ap₂}
use mathlib.Core.Path.{fun_ext}
use mathlib.Core.List.{map-map}
use lib.ListN.{length-map}
use Rattle.std.proofs.lemmas.List.{map-append}
use Rattle.field.specs.Ops.{Ops, total, dot}
use Rattle.equivalence.specs.Trees.{Tree, Forest, node, bare, more}
use Rattle.equivalence.specs.Automata.{Rule, Automaton, Sides, leading, element, along, vector, value, numbers, states, joined_vector}
use Rattle.equivalence.proofs.Members.{kept_by_map}

pub record Homomorphism {K J : Type 0} (o : Ops K) (q : Ops J) (h : K → J) : Type 0 where
  pub nil : q.nil ≡ h o.nil
  pub unit : q.unit ≡ h o.unit
  pub sum : (x y : K) → q.sum (h x) (h y) ≡ h (o.sum x y)
  pub prod : (x y : K) → q.prod (h x) (h y) ≡ h (o.prod x y)

module _ {K J : Type 0} (h : K → J) where
  abbrev pub mapped_rule : Rule K → Rule J
  mapped_rule r = record { symbol = r.symbol; target = r.target; weight = h r.weight; children = r.children }

  abbrev pub mapped : Automaton K → Automaton J
  mapped M = record { finals = map h M.finals; rules = map mapped_rule M.rules }

  abbrev pub mapped_sides : Sides K → Sides J
  mapped_sides S = record { ranks = S.ranks; a = mapped S.a; b = mapped S.b }

module _ {K J : Type 0} {o : Ops K} {q : Ops J} {h : K → J} (H : Homomorphism o q h) where
  total_mapped :
      {X : Type 0} (f : X → K) (g : X → J) → ((x : X) → g x ≡ h (f x)) → (xs : List X) → total q (map g xs) ≡ h (total o (map f xs))
  total_mapped f g e [] = H.nil
  total_mapped f g e (x ∷ xs) = ap₂ q.sum (e x) (total_mapped f g e xs) ∙ H.sum (f x) (total o (map f xs))

  pub dot_mapped : (xs ys : List K) → dot q (map h xs) (map h ys) ≡ h (dot o xs ys)
  dot_mapped [] ys = H.nil
  dot_mapped (x ∷ xs) [] = H.nil
  dot_mapped (x ∷ xs) (y ∷ ys) = ap₂ q.sum (H.prod x y) (dot_mapped xs ys) ∙ H.sum (o.prod x y) (dot o xs ys)

  module _ (rules : List (Rule K)) where
    mutual
      pub element_mapped : (t : Tree) (s : ℕ) → element q (map (mapped_rule h) rules) t s ≡ h (element o rules t s)
      element_mapped (node x f) s =
          ap (total q) (ap (map _) (kept_by_map (mapped_rule h) _ rules) ∙ map-map _ (mapped_rule h) (leading rules x s))
          ∙ total_mapped _ _ (λ r. ap (q.prod _) (along_mapped f r.children) ∙ H.prod r.weight (along o rules f r.children))
          (leading rules x s)

      along_mapped : (f : Forest) (ss : List ℕ) → along q (map (mapped_rule h) rules) f ss ≡ h (along o rules f ss)
      along_mapped bare [] = H.unit
      along_mapped bare (s ∷ ss) = H.nil
      along_mapped (more t f) [] = H.nil
      along_mapped (more t f) (s ∷ ss) =
          ap₂ q.prod (element_mapped t s) (along_mapped f ss) ∙ H.prod (element o rules t s) (along o rules f ss)

  pub vector_mapped : (M : Automaton K) (t : Tree) → vector q (mapped h M) t ≡ map h (vector o M t)
  vector_mapped M t =
      ap₂ (λ g n. map g (numbers n)) (fun_ext (element_mapped M.rules t)) (length-map M.finals h)
      ∙ sym (map-map h (element o M.rules t) (numbers (states M)))

  pub value_mapped : (M : Automaton K) (t : Tree) → value q (mapped h M) t ≡ h (value o M t)
  value_mapped M t = ap (dot q (map h M.finals)) (vector_mapped M t) ∙ dot_mapped M.finals (vector o M t)

  pub joined_vector_mapped : (S : Sides K) (t : Tree) → joined_vector q (mapped_sides h S) t ≡ map h (joined_vector o S t)
  joined_vector_mapped S t =
      ap₂ ◌++◌ (vector_mapped S.a t) (vector_mapped S.b t) ∙ sym (map-append h (vector o S.a t) (vector o S.b t))
