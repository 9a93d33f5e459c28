-- A finite field as a value: its elements are the codes below its size, code 0 is zero and code 1 is one.
use Rattle.std.specs.Prelude.{◌≡◌, ℕ, zero, suc, ◌^◌, ◌<◌, ◌≤◌, Bool, true, false, Some, None, Option, ◌≢◌, nat_eq}
use Rattle.field.specs.Ops.{Ops}

pub record Algebra : Type 0 where
  pub size : ℕ
  pub sum : ℕ → ℕ → ℕ
  pub prod : ℕ → ℕ → ℕ
  pub opp : ℕ → ℕ

abbrev pub ops : Algebra → Ops ℕ
ops A = record { nil = 0; unit = 1; sum = A.sum; prod = A.prod; opp = A.opp }

-- The first number below n that passes the test, if there is one.
abbrev pub or_else : Option ℕ → Bool → ℕ → Option ℕ
or_else (Some y) b n = Some y
or_else None true n = Some n
or_else None false n = None

unfoldable pub first : (ℕ → Bool) → ℕ → Option ℕ
first f zero = None
first f (suc n) = or_else (first f n) (f n) n

-- The inverse of x: the element whose product with x is one, absent where there is none.
unfoldable pub inverse : Algebra → ℕ → Option ℕ
inverse A x = first (λ y. nat_eq (A.prod x y) 1) A.size

-- The laws of a commutative ring, of codes below the size.
pub record RingLaws (A : Algebra) : Type 0 where
  pub sum_below : (x y : ℕ) → x < A.size → y < A.size → A.sum x y < A.size
  pub prod_below : (x y : ℕ) → x < A.size → y < A.size → A.prod x y < A.size
  pub opp_below : (x : ℕ) → x < A.size → A.opp x < A.size
  pub sum_assoc :
      (x y z : ℕ) → x < A.size → y < A.size → z < A.size → A.sum (A.sum x y) z ≡ A.sum x (A.sum y z)
  pub sum_comm : (x y : ℕ) → x < A.size → y < A.size → A.sum x y ≡ A.sum y x
  pub sum_zero : (x : ℕ) → x < A.size → A.sum x 0 ≡ x
  pub sum_opp : (x : ℕ) → x < A.size → A.sum x (A.opp x) ≡ 0
  pub prod_assoc :
      (x y z : ℕ) → x < A.size → y < A.size → z < A.size → A.prod (A.prod x y) z ≡ A.prod x (A.prod y z)
  pub prod_comm : (x y : ℕ) → x < A.size → y < A.size → A.prod x y ≡ A.prod y x
  pub prod_one : (x : ℕ) → x < A.size → A.prod x 1 ≡ x
  pub prod_sum :
      (x y z : ℕ) → x < A.size → y < A.size → z < A.size → A.prod x (A.sum y z) ≡ A.sum (A.prod x y) (A.prod x z)

-- The laws of a finite field whose codes fit 32 bits.
pub record Lawful (A : Algebra) : Type 0 where
  pub least : 2 ≤ A.size
  pub most : A.size ≤ 2 ^ 32
  pub ring : RingLaws A
  pub inverse_zero : inverse A 0 ≡ None
  pub inverse_prod :
      (x : ℕ) → x < A.size → (x ≢ 0) → (y : ℕ) × (inverse A x ≡ Some y) × (y < A.size) × (A.prod x y ≡ 1)

-- What a division of a by b gives: nothing at zero, and else the element whose product with b is a.
abbrev pub Quotient : Algebra → ℕ → ℕ → Option ℕ → Type 0
Quotient A a b None = b ≡ 0
Quotient A a b (Some c) = (b ≢ 0) × (c < A.size) × (A.prod b c ≡ a)
