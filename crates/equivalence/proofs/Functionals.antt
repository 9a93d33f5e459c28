-- Functionals are closed under what the ring builds from them. Assumes nothing.
use Rattle.std.proofs.Common.{ℕ, zero, suc, List, [], ◌∷◌, ◌++◌, map, get_or, sym, ap, ◌∙◌, subst, ap₂}
use mathlib.Core.Path.{fun_ext}
use mathlib.Core.List.{map-map}
use Rattle.field.specs.Ops.{Ops, Ring, total, dot}
use Rattle.field.proofs.Rings.{dot_nils, dot_sums, dot_scaled}
use Rattle.equivalence.proofs.Space.{Vector, Functional, Linear}

module _ {K : Type 0} {o : Ops K} (R : Ring o) where
  open o use {nil, sum as ◌⊕◌, prod as ◌⊗◌}

  infixl 65 ◌⊕◌
  infixl 70 ◌⊗◌
  pub functional_nil : Functional o (λ _. nil)
  functional_nil cs vs v l e = sym (dot_nils R cs vs)

  pub functional_at : (i : ℕ) → Functional o (λ v. v i)
  functional_at i cs vs v l e = e i

  pub functional_sum : (f g : Vector K → K) → Functional o f → Functional o g → Functional o (λ v. f v ⊕ g v)
  functional_sum f g hf hg cs vs v l e = ap₂ ◌⊕◌ (hf cs vs v l e) (hg cs vs v l e) ∙ sym (dot_sums R f g cs vs)

  pub functional_scaled : (b : K) (f : Vector K → K) → Functional o f → Functional o (λ v. b ⊗ f v)
  functional_scaled b f h cs vs v l e = ap (λ w. b ⊗ w) (h cs vs v l e) ∙ sym (dot_scaled R b f cs vs)

  pub functional_times : (b : K) (f : Vector K → K) → Functional o f → Functional o (λ v. f v ⊗ b)
  functional_times b f h = subst (Functional o) (fun_ext (λ v. R.prod_comm b (f v))) (functional_scaled b f h)

  pub linear_from_places : (f : Vector K → Vector K) → ((i : ℕ) → Functional o (λ v. f v i)) → Linear o f
  linear_from_places f h cs vs v l e i = h i cs vs v l e ∙ ap (dot o cs) (sym (map-map (λ v. v i) f vs))

  module _ {X : Type 0} (g : X → Vector K → K) (h : (x : X) → Functional o (g x)) where
    pub functional_total : (xs : List X) → Functional o (λ v. total o (map (λ x. g x v) xs))
    functional_total [] = functional_nil
    functional_total (x ∷ xs) =
        functional_sum (g x) (λ v. total o (map (λ x. g x v) xs)) (h x) (functional_total xs)

    pub functional_dot : (bs : List K) (xs : List X) → Functional o (λ v. dot o bs (map (λ x. g x v) xs))
    functional_dot [] xs = functional_nil
    functional_dot (b ∷ bs) [] = functional_nil
    functional_dot (b ∷ bs) (x ∷ xs) =
        functional_sum (λ v. b ⊗ g x v) (λ v. dot o bs (map (λ x. g x v) xs)) (functional_scaled b (g x) (h x))
        (functional_dot bs xs)

    -- the places of a list of functionals, before further ones
    pub functional_places :
        (rest : Vector K → List K)
        → ((i : ℕ) → Functional o (λ v. get_or (rest v) i nil))
        → (xs : List X) (i : ℕ)
        → Functional o (λ v. get_or (map (λ x. g x v) xs ++ rest v) i nil)
    functional_places rest k [] i = k i
    functional_places rest k (x ∷ xs) zero = h x
    functional_places rest k (x ∷ xs) (suc i) = functional_places rest k xs i
