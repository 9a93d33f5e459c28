-- Joined lists and filters: what they hold and how long they are; and the numbers 1 to n. Assumes nothing.
use Rattle.std.proofs.Common.{◌≡◌, ℕ, zero, suc, ◌+◌, ◌*◌, ◌≤◌, Bool, true, false, cond, List, [], ◌∷◌, ◌++◌, map, length, sum_by, filter, sym, refl, ap, ◌∙◌, subst, ⊎_elim, zero-mul, arith, length-append}
use lib.ListN.{length-map}
use Rattle.std.specs.List.{ContainsAt as Has, flat_map, AllByRecursion}
use Rattle.std.proofs.lemmas.List.{get_or-map, length_push}
use Rattle.std.proofs.ByRecursion.{All-append, All-push, All-map, All-weaker, all-has, all_has_itself, has_append_left, has_append_right, has_push, all_kept_by, kept_by_passes}
use Rattle.std.proofs.lemmas.List.Elements.{filter-append}
use Rattle.std.proofs.lemmas.List.Sums.{sum_by-cons}
use Rattle.std.proofs.lemmas.Bool.{cases_eq}
use Rattle.equivalence.specs.Automata.{numbers}

module _ {X : Type 0} where
  pub all_both : (P Q : X → Type 0) (xs : List X) → AllByRecursion P xs → AllByRecursion Q xs → AllByRecursion (λ x. P x × Q x) xs
  all_both P Q [] h k = tt
  all_both P Q (x ∷ xs) h k = ((h.0, k.0), all_both P Q xs h.1 k.1)

  pub kept_by_none : (xs : List X) → filter (λ _. false) xs ≡ []
  kept_by_none [] = refl
  kept_by_none (x ∷ xs) = kept_by_none xs

  kept_holds : (p : X → Bool) (xs : List X) → AllByRecursion (λ x. p x ≡ true → Has (filter p xs) x) xs
  kept_holds p [] = tt
  kept_holds p (x ∷ xs) =
      let here : List X = filter p (x ∷ []) in
      let rest : List X = filter p xs in
      subst (λ l. AllByRecursion (λ y. p y ≡ true → Has l y) (x ∷ xs)) (sym (filter-append p (x ∷ []) xs)) (
        λ e. has_append_left here rest x (rw e (has_push [] x)),
        All-weaker _ _ (λ y h e. has_append_right here rest y (h e)) xs (kept_holds p xs),
      )

  pub has_kept_by : (p : X → Bool) (xs : List X) (x : X) → Has xs x → p x ≡ true → Has (filter p xs) x
  has_kept_by p xs x = all-has (λ x. p x ≡ true → Has (filter p xs) x) xs x (kept_holds p xs)

  pub all_from_has : (P : X → Type 0) (xs : List X) → ((x : X) → Has xs x → P x) → AllByRecursion P xs
  all_from_has P xs h = All-weaker (Has xs) P h xs (all_has_itself xs)

  pub kept_by_has : (p : X → Bool) (xs : List X) (x : X) → Has (filter p xs) x → Has xs x × (p x ≡ true)
  kept_by_has p xs x h =
      let held = all_kept_by p (Has xs) xs (all_has_itself xs) in
      (all-has (Has xs) (filter p xs) x held h, all-has (λ y. p y ≡ true) (filter p xs) x (kept_by_passes p xs) h)

  pub sumBy_constant : (n : ℕ) (xs : List X) → sum_by (λ _. n) xs ≡ length xs * n
  sumBy_constant n [] = sym (zero-mul n)
  sumBy_constant n (x ∷ xs) = rw (sum_by-cons (λ _. n) x xs, sumBy_constant n xs) (omega arith)

  pub sumBy_sums : (f g h : X → ℕ) → ((x : X) → f x + g x ≡ h x) → (xs : List X) → sum_by f xs + sum_by g xs ≡ sum_by h xs
  sumBy_sums f g h e [] = refl
  sumBy_sums f g h e (x ∷ xs) =
      rw (sum_by-cons f x xs, sum_by-cons g x xs, sum_by-cons h x xs) (omega (arith, e x, sumBy_sums f g h e xs))

module _ {X Y : Type 0} (f : X → Y) where
  pub has_map : (xs : List X) (x : X) → Has xs x → Has (map f xs) (f x)
  has_map xs x h = let l = h.1 in (h.0, simp length-map l, λ d. get_or-map f xs h.0 x d l ∙ ap f (h.2 x))

  pub map_has : (xs : List X) (y : Y) → Has (map f xs) y → (x : X) × Has xs x × (f x ≡ y)
  map_has xs y =
      all-has (λ y. (x : X) × Has xs x × (f x ≡ y)) (map f xs) y (All-map _ f xs (All-weaker _ _ (λ x h. (x, h, refl)) xs (all_has_itself xs)))

  map_cond : (b : Bool) (x : X) (xs : List X) → cond b (f x ∷ map f xs) (map f xs) ≡ map f (cond b (x ∷ xs) xs)
  map_cond true x xs = refl
  map_cond false x xs = refl

  pub kept_by_map : (p : Y → Bool) (xs : List X) → filter p (map f xs) ≡ map f (filter (λ x. p (f x)) xs)
  kept_by_map p [] = refl
  kept_by_map p (x ∷ xs) = rw (kept_by_map p xs) (map_cond (p (f x)) x _)

module _ {X A : Type 0} (f : X → List A) where
  pub all_joined : (P : A → Type 0) (xs : List X) → AllByRecursion (λ x. AllByRecursion P (f x)) xs → AllByRecursion P (flat_map f xs)
  all_joined P [] h = tt
  all_joined P (x ∷ xs) h = All-append P (f x) (flat_map f xs) h.0 (all_joined P xs h.1)

  joined_holds : (xs : List X) → AllByRecursion (λ x. (a : A) → Has (f x) a → Has (flat_map f xs) a) xs
  joined_holds [] = tt
  joined_holds (x ∷ xs) = (
    has_append_left (f x) (flat_map f xs),
    All-weaker _ _ (λ y h a k. has_append_right (f x) (flat_map f xs) a (h a k)) xs (joined_holds xs),
  )

  pub has_joined : (xs : List X) (x : X) (a : A) → Has xs x → Has (f x) a → Has (flat_map f xs) a
  has_joined xs x a h = all-has (λ x. (a : A) → Has (f x) a → Has (flat_map f xs) a) xs x (joined_holds xs) h a

  pub joined_same : (g : X → List A) (xs : List X) → AllByRecursion (λ x. f x ≡ g x) xs → flat_map f xs ≡ flat_map g xs
  joined_same g [] h = refl
  joined_same g (x ∷ xs) h = rw (h.0, joined_same g xs h.1)

  pub kept_by_joined : (p : A → Bool) (xs : List X) → filter p (flat_map f xs) ≡ flat_map (λ x. filter p (f x)) xs
  kept_by_joined p [] = refl
  kept_by_joined p (x ∷ xs) = filter-append p (f x) (flat_map f xs) ∙ ap (λ l. filter p (f x) ++ l) (kept_by_joined p xs)

  pub length_joined : (g : X → ℕ) → ((x : X) → length (f x) ≡ g x) → (xs : List X) → length (flat_map f xs) ≡ sum_by g xs
  length_joined g h [] = refl
  length_joined g h (x ∷ xs) = rw (length-append (f x) (flat_map f xs), h x, length_joined g h xs, sum_by-cons g x xs)

pub length_numbers : (n : ℕ) → length (numbers n) ≡ n
length_numbers zero = refl
length_numbers (suc n) = rw (length_push, length_numbers n) (omega arith)

pub all_numbers : (P : ℕ → Type 0) (n : ℕ) → ((c : ℕ) → (1 ≤ c) × (c ≤ n) → P c) → AllByRecursion P (numbers n)
all_numbers P zero f = tt
all_numbers P (suc n) f =
    All-push P (numbers n) (suc n) (all_numbers P n (λ c h. f c (omega arith))) (f (suc n) (omega arith))

pub has_numbers : (n c : ℕ) → (1 ≤ c) × (c ≤ n) → Has (numbers n) c
has_numbers zero c h = absurd (omega arith)
has_numbers (suc n) c h =
    ⊎_elim
    (λ e. rw e (has_push (numbers n) (suc n)))
    (λ e. has_append_left (numbers n) (suc n ∷ []) c (has_numbers n c (omega arith)))
    (cases_eq c (suc n))
