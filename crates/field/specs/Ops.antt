-- The operations of a commutative ring on any carrier, and what is built from them alone.
-- Definitions that cite these operations serve codes and abstract elements alike.
use Rattle.std.specs.Prelude.{◌≡◌, ℕ, zero, suc, List, [], ◌∷◌}

pub record Ops (K : Type 0) : Type 0 where
  pub nil : K
  pub unit : K
  pub sum : K → K → K
  pub prod : K → K → K
  pub opp : K → K

-- the sum of a list; of none it is zero
abbrev pub total : {K : Type 0} → Ops K → List K → K
total o [] = o.nil
total o (x ∷ xs) = o.sum x (total o xs)

-- the product of a list; of none it is one
abbrev pub product : {K : Type 0} → Ops K → List K → K
product o [] = o.unit
product o (x ∷ xs) = o.prod x (product o xs)

-- the sum of the products of two lists, place by place
abbrev pub dot : {K : Type 0} → Ops K → List K → List K → K
dot o [] ys = o.nil
dot o (x ∷ xs) [] = o.nil
dot o (x ∷ xs) (y ∷ ys) = o.sum (o.prod x y) (dot o xs ys)

-- x to the n: n factors x
abbrev pub power : {K : Type 0} → Ops K → K → ℕ → K
power o x zero = o.unit
power o x (suc n) = o.prod x (power o x n)

-- The laws of a commutative ring, of every element of the carrier.
pub record Ring {K : Type 0} (o : Ops K) : Type 0 where
  pub sum_assoc : (x y z : K) → o.sum (o.sum x y) z ≡ o.sum x (o.sum y z)
  pub sum_comm : (x y : K) → o.sum x y ≡ o.sum y x
  pub sum_nil : (x : K) → o.sum x o.nil ≡ x
  pub sum_opp : (x : K) → o.sum x (o.opp x) ≡ o.nil
  pub prod_assoc : (x y z : K) → o.prod (o.prod x y) z ≡ o.prod x (o.prod y z)
  pub prod_comm : (x y : K) → o.prod x y ≡ o.prod y x
  pub prod_unit : (x : K) → o.prod x o.unit ≡ x
  pub prod_sum : (x y z : K) → o.prod x (o.sum y z) ≡ o.sum (o.prod x y) (o.prod x z)
