-- The number of a name in a list of names, by the first place where it stands.
use Rattle.std.proofs.Common.{◌≡◌, ℕ, zero, suc, ◌+◌, ◌<◌, ◌≤◌, Bool, true, false, cond, List, [], ◌∷◌, ◌++◌, map, length, take, Option, Some, None, MatchOption, Decides, sym, refl, ap, inl, inr, add-one, arith}
use Rattle.std.specs.List.{AllWithin, HoldsAt}
use Rattle.std.proofs.lemmas.Slice.Eq.{compares_Decides}
use Rattle.std.proofs.lemmas.Bool.{cases_Bool}
use Rattle.format.specs.Reading.{same_bytes, or_none, number_of}
use Rattle.tables.specs.Tables.{numbered}

same_bytes_is : (xs ys : List ℕ) → Decides (same_bytes xs ys) (xs ≡ ys)
same_bytes_is =
    compares_Decides same_bytes (record { empty = refl; shorter = λ _ _. refl; longer = λ _ _. refl; heads = λ _ _ _ _. refl })

counted : (b : Bool) (n m : ℕ) → n ≤ m → cond b 1 (or_none n) ≤ suc m
counted true n m h = omega arith
counted false zero m h = omega arith
counted false (suc n) m h = omega arith

pub number_of_le : (ys : List (List ℕ)) (x : List ℕ) → number_of ys x ≤ length ys
number_of_le [] x = omega arith
number_of_le (y ∷ ys) x = counted (same_bytes y x) (number_of ys x) (length ys) (number_of_le ys x)

-- by the names of things
module _ {X : Type 0} (called : X → List ℕ) (x : List ℕ) where
  other : (y : X) → (called y ≡ x → ⊥) → same_bytes (called y) x ≡ false
  other y h =
      elim (cases_Bool (same_bytes (called y) x)) [ inl t ↦ absurd (h ((same_bytes_is (called y) x).0 t)) | inr t ↦ t ]

  pub none_called : (ys : List X) → AllWithin (λ y. called y ≡ x → ⊥) ys 0 (length ys) → number_of (map called ys) x ≡ 0
  none_called [] h = refl
  none_called (y ∷ ys) h =
      rw (other y (h 0 y (omega arith) (omega arith)), none_called ys (λ k d low high. h (suc k) d (omega arith) (omega arith)))

  pub first_called : (ys : List X) (i : ℕ) → i < length ys → HoldsAt (λ y. called y ≡ x) ys i → AllWithin (λ y. called y ≡ x → ⊥) ys 0 i → number_of (map called ys) x ≡ i + 1
  first_called [] i less here before = absurd (omega arith)
  first_called (y ∷ ys) zero less here before = rw ((same_bytes_is (called y) x).1 (here y))
  first_called (y ∷ ys) (suc i) less here before =
      rw (other y (before 0 y (omega arith) (omega arith)), first_called ys i (omega arith) here (λ k d low high. before (suc k) d (omega arith) (omega arith)), add-one i) (sym (add-one (suc i)))

pub numbered_is : (r : Option ℕ) (n : ℕ) → MatchOption r (n ≡ 0) (λ k. (1 ≤ n) × (k ≡ n)) → r ≡ numbered n
numbered_is None n h = rw h
numbered_is (Some k) zero h = absurd (omega arith)
numbered_is (Some k) (suc n) h = ap Some h.1

pub take_again : {X : Type 0} (n : ℕ) (xs ys : List X) → take n (take n xs ++ ys) ≡ take n (xs ++ ys)
take_again zero xs ys = refl
take_again (suc n) [] ys = refl
take_again (suc n) (x ∷ xs) ys = ap (λ zs. x ∷ zs) (take_again n xs ys)
