-- The vectors of the first entries of a list, and of one more.
use Rattle.std.proofs.Common.{◌≡◌, ℕ, zero, suc, ◌+◌, ◌<◌, ◌≤◌, List, [], ◌∷◌, ◌++◌, map, length, get_or, take, sym, ap, ◌∙◌, subst₂, arith}
use lib.ListN.{length-map}
use Rattle.std.proofs.lemmas.List.{length_push, length-take-le, map_more, take_all}
use Rattle.field.specs.Algebra.{Algebra, ops}
use Rattle.field.specs.Ops.{Ops, dot}
use Rattle.equivalence.specs.Automata.{Automaton, Sound, value}
use Rattle.equivalence.specs.Entries.{Entry, LaidOut, LaidOutFrom, WellFormed, tree_of}
use Rattle.equivalence.specs.Valuing.{entry_vector, last_or, vectors_from, vectors_of}
use Rattle.equivalence.proofs.Valuing.{entries_valued, vectors_push}

-- an entry at a place keeps to the layout, with as many entries before it
pub laid_at :
    {X : Type 0} (f : X → Entry) (ranks : List ℕ) (n m : ℕ) (xs : List X) (i : ℕ) (x : X)
    → LaidOutFrom ranks n (map f xs)
    → i < length xs → x ≡ get_or xs i x → m ≡ n + i
    → LaidOut ranks m (f x)
laid_at f ranks n m [] i x h less is at = absurd (omega arith)
laid_at f ranks n m (y ∷ ys) zero x h less is at =
    let same : n ≡ m = omega arith in
    subst₂ (λ k z. LaidOut ranks k (f z)) same (sym is) h.0
laid_at f ranks n m (y ∷ ys) (suc i) x h less is at = laid_at f ranks (suc n) m ys i x h.1 (omega arith) is (omega arith)

module _ {K : Type 0} (o : Ops K) (M : Automaton K) where
  length_vectors : (vs : List (List K)) (es : List Entry) → length (vectors_from o M vs es) ≡ length vs + length es
  length_vectors vs [] = omega arith
  length_vectors vs (e ∷ es) =
      let v = entry_vector o M vs e in
      omega (arith, length_vectors (vs ++ (v ∷ [])) es, length_push vs v)

  module _ {X : Type 0} (f : X → Entry) (xs : List X) (i : ℕ) where
    pub length_first : (vs : List (List K)) → i ≤ length xs → vs ≡ vectors_of o M (map f (take i xs)) → length vs ≡ i
    length_first vs h is =
        let l = length_vectors [] (map f (take i xs)) in
        let m = length-map (take i xs) f in
        let t = length-take-le i xs h in
        ap length is ∙ omega arith

    pub vectors_more :
        (x : X) (old new : List (List K))
        → i < length xs → x ≡ get_or xs i x
        → old ≡ vectors_of o M (map f (take i xs))
        → new ≡ old ++ (entry_vector o M old (f x) ∷ [])
        → new ≡ vectors_of o M (map f (take (i + 1) xs))
    vectors_more x old new less is was pushed =
        let front = map f (take i xs) in
        let more = map_more f xs i x less ∙ ap (λ y. front ++ (f y ∷ [])) (sym is) in
        pushed
        ∙ ap (λ vs. vs ++ (entry_vector o M vs (f x) ∷ [])) was
        ∙ sym (ap (vectors_of o M) more ∙ vectors_push o M front (f x))

-- what the last vector of all entries is worth is the tree's value
pub value_all :
    (A : Algebra) (M : Automaton ℕ) (ranks : List ℕ) {X : Type 0} (f : X → Entry) (xs : List X) (i r : ℕ) (vs : List (List ℕ))
    → Sound A.size M → WellFormed ranks (map f xs) → length xs ≤ i
    → vs ≡ vectors_of (ops A) M (map f (take i xs))
    → r ≡ dot (ops A) M.finals (last_or [] vs)
    → r ≡ value (ops A) M (tree_of (map f xs))
value_all A M ranks f xs i r vs sound well past was is =
    is
    ∙ ap (λ ws. dot (ops A) M.finals (last_or [] ws)) (was ∙ ap (λ ys. vectors_of (ops A) M (map f ys)) (take_all i xs past))
    ∙ (entries_valued A M ranks (map f xs) sound well).tree
