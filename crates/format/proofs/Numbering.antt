-- Names and their numbers: a declared name is found again by its number, and a number by its name. Assumes nothing.
use Rattle.std.proofs.Common.{◌≡◌, ℕ, zero, suc, ◌-◌, ◌<◌, ◌≤◌, ◌⊎◌, List, [], ◌∷◌, ◌++◌, map, length, get_or, Decides, sym, refl, ap, ◌∙◌, ap₂, inl, inr, ⊎_elim, arith}
use Rattle.std.specs.List.{AllByRecursion}
use Rattle.std.proofs.ByRecursion.{All-get_or, All-push, All-map, All-weaker}
use Rattle.std.proofs.lemmas.Slice.Eq.{compares_Decides}
use Rattle.std.proofs.lemmas.Bool.{cases_Bool, cond-true, cond-false, both_ways}
use Rattle.format.specs.Records.{Distinct, NumbersOneOf}
use Rattle.format.specs.Reading.{same_bytes, number_of, or_none, Declared, Undeclared}

pub same_bytes_decides : (x y : List ℕ) → Decides (same_bytes x y) (x ≡ y)
same_bytes_decides =
    compares_Decides same_bytes
    (record { empty = refl; shorter = λ y ys. refl; longer = λ x xs. refl; heads = λ x y xs ys. refl })

cases_same : (x y : List ℕ) → (x ≡ y) ⊎ (x ≡ y → ⊥)
cases_same x y =
    ⊎_elim (λ t. inl ((same_bytes_decides x y).0 t)) (λ f. inr (λ e. both_ways _ f ((same_bytes_decides x y).1 e)))
    (cases_Bool (same_bytes x y))

module _ (y : List ℕ) (ys : List (List ℕ)) (x : List ℕ) where
  number_here : y ≡ x → number_of (y ∷ ys) x ≡ 1
  number_here e = cond-true _ _ _ ((same_bytes_decides y x).1 e)

  number_later : (y ≡ x → ⊥) → number_of (y ∷ ys) x ≡ or_none (number_of ys x)
  number_later n =
      cond-false (same_bytes y x) _ _ (⊎_elim (λ t. absurd (n ((same_bytes_decides y x).0 t))) (λ f. f) (cases_Bool (same_bytes y x)))

or_none_one : (n : ℕ) → 1 ≤ n → or_none n ≡ suc n
or_none_one zero h = absurd (omega arith)
or_none_one (suc n) h = refl

or_none_some : (n : ℕ) → 1 ≤ or_none n → 1 ≤ n
or_none_some zero h = absurd (omega arith)
or_none_some (suc n) h = omega arith

or_none_most : (n : ℕ) → or_none n ≤ suc n
or_none_most zero = omega arith
or_none_most (suc n) = omega arith

-- a number is 0 exactly where the name is not among the names
pub undeclared_from_all : (names : List (List ℕ)) (x : List ℕ) → AllByRecursion (λ y. y ≡ x → ⊥) names → Undeclared names x
undeclared_from_all [] x h = refl
undeclared_from_all (y ∷ ys) x h = number_later y ys x h.0 ∙ ap or_none (undeclared_from_all ys x h.1)

pub all_from_undeclared : (names : List (List ℕ)) (x : List ℕ) → Undeclared names x → AllByRecursion (λ y. y ≡ x → ⊥) names
all_from_undeclared [] x h = tt
all_from_undeclared (y ∷ ys) x h =
    let apart : y ≡ x → ⊥ = λ e. omega (arith, number_here y ys x e, h) in
    let later = number_later y ys x apart in
    (apart, all_from_undeclared ys x (none (number_of ys x) (sym later ∙ h)))
  where
    none : (n : ℕ) → or_none n ≡ 0 → n ≡ 0
    none zero e = refl
    none (suc n) e = omega arith

pub number_most : (names : List (List ℕ)) (x : List ℕ) → number_of names x ≤ length names
number_most [] x = omega arith
number_most (y ∷ ys) x =
    let back = number_most ys x in
    let most = or_none_most (number_of ys x) in
    ⊎_elim (λ e. omega (arith, number_here y ys x e)) (λ n. omega (arith, number_later y ys x n)) (cases_same y x)

-- a declared name is the one at its number
pub name_of_number : (names : List (List ℕ)) (x : List ℕ) → Declared names x → get_or names (number_of names x - 1) [] ≡ x
name_of_number [] x h = absurd (omega arith)
name_of_number (y ∷ ys) x h =
    ⊎_elim (λ e. rw (number_here y ys x e) e)
    (λ n.
    let later = number_later y ys x n in
    let some : Declared ys x = or_none_some _ (omega (arith, later, h)) in
    let at : number_of (y ∷ ys) x - 1 ≡ suc (number_of ys x - 1) = omega (arith, later, or_none_one _ some) in
    ap (λ k. get_or (y ∷ ys) k []) at ∙ name_of_number ys x some)
    (cases_same y x)

-- of distinct names, the number of the one at a place
pub number_of_place :
    (names : List (List ℕ))
    → Distinct names
    → (k : ℕ)
    → k < length names
    → number_of names (get_or names k []) ≡ suc k
number_of_place [] d k h = absurd (omega arith)
number_of_place (y ∷ ys) d zero h = number_here y ys y refl
number_of_place (y ∷ ys) d (suc k) h =
    let back = number_of_place ys d.1 k (omega arith) in
    let apart = All-get_or (λ z. z ≡ y → ⊥) ys k [] (omega arith) d.0 in
    number_later y ys _ (λ e. apart (sym e)) ∙ ap or_none back

pub number_of_name :
    (names : List (List ℕ))
    → Distinct names
    → (k : ℕ)
    → NumbersOneOf (length names) k
    → number_of names (get_or names (k - 1) []) ≡ k
number_of_name names d zero h = absurd (omega arith)
number_of_name names d (suc k) h =
    ap (λ i. number_of names (get_or names i [])) (omega arith) ∙ number_of_place names d k (omega arith)

-- names in front keep their numbers
pub number_append :
    (names more : List (List ℕ)) (x : List ℕ)
    → Declared names x
    → number_of (names ++ more) x ≡ number_of names x
number_append [] more x h = absurd (omega arith)
number_append (y ∷ ys) more x h =
    ⊎_elim (λ e. number_here y (ys ++ more) x e ∙ sym (number_here y ys x e))
    (λ n.
    let later = number_later y ys x n in
    number_later y (ys ++ more) x n ∙ ap or_none (number_append ys more x (or_none_some _ (omega (arith, later, h)))) ∙ sym later)
    (cases_same y x)

-- what comes after distinct names
pub distinct_push : (names : List (List ℕ)) (x : List ℕ) → Distinct names → Undeclared names x → Distinct (names ++ (x ∷ []))
distinct_push names x d u = push names d (all_from_undeclared names x u)
  where
    push : (ys : List (List ℕ)) → Distinct ys → AllByRecursion (λ y. y ≡ x → ⊥) ys → Distinct (ys ++ (x ∷ []))
    push [] d a = (tt, tt)
    push (y ∷ ys) d a = (All-push _ ys x d.0 (λ e. a.0 (sym e)), push ys d.1 a.1)

pub all_middle : {X : Type 0} (P : X → Type 0) (xs : List X) (x : X) (more : List X) → AllByRecursion P (xs ++ (x ∷ more)) → P x
all_middle P [] x more h = h.0
all_middle P (y ∷ ys) x more h = all_middle P ys x more h.1

pub undeclared_before :
    (names : List (List ℕ)) (x : List ℕ) (more : List (List ℕ))
    → Distinct (names ++ (x ∷ more))
    → Undeclared names x
undeclared_before names x more d = undeclared_from_all names x (before names d)
  where
    before : (ys : List (List ℕ)) → Distinct (ys ++ (x ∷ more)) → AllByRecursion (λ y. y ≡ x → ⊥) ys
    before [] d = tt
    before (y ∷ ys) d = (λ e. all_middle (λ z. z ≡ y → ⊥) ys x more d.0 (sym e), before ys d.1)

-- names to numbers and back
pub names_of_numbers :
    (names xs : List (List ℕ))
    → AllByRecursion (Declared names) xs
    → map (λ (k : ℕ). get_or names (k - 1) []) (map (number_of names) xs) ≡ xs
names_of_numbers names [] h = refl
names_of_numbers names (x ∷ xs) h = ap₂ (λ y ys. y ∷ ys) (name_of_number names x h.0) (names_of_numbers names xs h.1)

pub numbers_of_names :
    (names : List (List ℕ))
    → Distinct names
    → (ks : List ℕ)
    → AllByRecursion (NumbersOneOf (length names)) ks
    → map (number_of names) (map (λ (k : ℕ). get_or names (k - 1) []) ks) ≡ ks
numbers_of_names names d [] h = refl
numbers_of_names names d (k ∷ ks) h = ap₂ (λ y ys. y ∷ ys) (number_of_name names d k h.0) (numbers_of_names names d ks h.1)

pub numbers_one : (names : List (List ℕ)) (x : List ℕ) → Declared names x → NumbersOneOf (length names) (number_of names x)
numbers_one names x h = (h, number_most names x)

pub all_numbers :
    (names xs : List (List ℕ))
    → AllByRecursion (Declared names) xs
    → AllByRecursion (NumbersOneOf (length names)) (map (number_of names) xs)
all_numbers names xs h = All-map _ (number_of names) xs (All-weaker _ _ (numbers_one names) xs h)

-- a name at a number is declared
pub declared_name :
    (names : List (List ℕ))
    → Distinct names
    → (k : ℕ)
    → NumbersOneOf (length names) k
    → Declared names (get_or names (k - 1) [])
declared_name names d k h = omega (arith, number_of_name names d k h, h)
