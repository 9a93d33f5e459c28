-- What one call more declares. Assumes nothing.
use Rattle.std.proofs.Common.{◌≡◌, ℕ, zero, suc, ◌+◌, ◌-◌, ◌<◌, ◌≤◌, List, [], ◌∷◌, ◌++◌, map, get_or, set, replicate, sym, refl, ap, ◌∙◌, ⊎_elim, append-nil, arith}
use Rattle.std.specs.List.{flat_map}
use Rattle.std.proofs.lemmas.List.{flat_map_more, ext_get_or, get_or-map, get_or-set_same, get_or-set_other, length-map, length-set, map-append, replicate_more}
use Rattle.std.proofs.lemmas.Bool.{cases_eq}
use Rattle.equivalence.specs.Automata.{numbers}
use Rattle.equivalence.specs.Valuing.{last_or}
use Rattle.equivalence.proofs.Lists.{getD_numbers}
use Rattle.equivalence.proofs.Members.{length_numbers}

module _ {X Y : Type 0} (f : X → List Y) where
  pub joined_push : (xs : List X) (x : X) → flat_map f (xs ++ (x ∷ [])) ≡ flat_map f xs ++ f x
  joined_push xs x = sym (flat_map_more f [] xs x)

  pub joined_none : (xs : List X) (x : X) → f x ≡ [] → flat_map f (xs ++ (x ∷ [])) ≡ flat_map f xs
  joined_none xs x e = joined_push xs x ∙ (ap (λ ys. flat_map f xs ++ ys) e ∙ append-nil (flat_map f xs))

pub last_push : (xs : List ℕ) (x d : ℕ) → last_or d (xs ++ (x ∷ [])) ≡ x
last_push [] x d = refl
last_push (y ∷ xs) x d = last_push xs x y

pub map_same_value : (n y : ℕ) → replicate n y ≡ map (λ (p : ℕ). y) (numbers n)
map_same_value zero y = refl
map_same_value (suc n) y =
    let more : suc n ≡ n + 1 = omega arith in
    ap (λ k. replicate k y) more
    ∙ (sym (replicate_more n y)
    ∙ (ap (λ ys. ys ++ (y ∷ [])) (map_same_value n y) ∙ sym (map-append (λ (p : ℕ). y) (numbers n) (suc n ∷ []))))

-- one value replaced, at the place of its number
module _ (f g : ℕ → ℕ) (n q w : ℕ) (least : 1 ≤ q) (most : q ≤ n) (here : g q ≡ w)
    (other : (p : ℕ) → (p ≡ q → ⊥) → g p ≡ f p) where
  at_place : (i : ℕ) → i < n → get_or (map g (numbers n)) i 0 ≡ get_or (set (map f (numbers n)) (q - 1) w) i 0
  at_place i h =
      let before : suc i - 1 ≡ i = omega arith in
      let here_is : get_or (numbers n) i 0 ≡ suc i = rw before at (getD_numbers n (suc i) 0 (omega arith) (omega arith)) in
      let left = get_or-map g (numbers n) i 0 0 (omega (arith, length_numbers n)) ∙ ap g here_is in
      let right = get_or-map f (numbers n) i 0 0 (omega (arith, length_numbers n)) ∙ ap f here_is in
      ⊎_elim
      (λ e.
      let next : suc i ≡ q = omega arith in
      let set_there = get_or-set_same (map f (numbers n)) (q - 1) w 0 (omega (arith, length-map (numbers n) f, length_numbers n)) in
      left ∙ (ap g next ∙ (here ∙ (sym set_there ∙ ap (λ j. get_or (set (map f (numbers n)) (q - 1) w) j 0) (sym e)))))
      (λ e. left ∙ (other (suc i) (λ k. e (omega arith)) ∙ (sym right ∙ sym (get_or-set_other (map f (numbers n)) (q - 1) i w 0 e))))
      (cases_eq i (q - 1))

  pub map_replaced : map g (numbers n) ≡ set (map f (numbers n)) (q - 1) w
  map_replaced =
      ext_get_or 0 (map g (numbers n)) (set (map f (numbers n)) (q - 1) w) (simp (length-map, length-set))
      (λ i h. at_place i (omega (arith, length-map (numbers n) g, length_numbers n)))
