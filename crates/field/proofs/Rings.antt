-- What the laws of a commutative ring give, over any carrier. Assumes nothing.
use Rattle.std.proofs.Common.{◌≡◌, ℕ, zero, suc, ◌+◌, ◌*◌, List, [], ◌∷◌, ◌++◌, map, sym, refl, ap, ◌∙◌, ap₂, suc-mul, suc-add, zero-add, zero-mul}
use Rattle.field.specs.Ops.{Ops, Ring, total, product, dot, power}

module _ {K : Type 0} {o : Ops K} (R : Ring o) where
  open o use {nil, unit, opp, sum as ◌⊕◌, prod as ◌⊗◌}
  open R use {sum_assoc, sum_comm, sum_nil, sum_opp, prod_assoc, prod_comm, prod_unit, prod_sum}

  infixl 65 ◌⊕◌
  infixl 70 ◌⊗◌
  pub nil_sum : (x : K) → nil ⊕ x ≡ x
  nil_sum x = sum_comm nil x ∙ sum_nil x

  pub opp_sum : (x : K) → opp x ⊕ x ≡ nil
  opp_sum x = sum_comm (opp x) x ∙ sum_opp x

  pub unit_prod : (x : K) → unit ⊗ x ≡ x
  unit_prod x = prod_comm unit x ∙ prod_unit x

  pub sum_prod : (x y z : K) → (x ⊕ y) ⊗ z ≡ x ⊗ z ⊕ y ⊗ z
  sum_prod x y z = prod_comm (x ⊕ y) z ∙ prod_sum z x y ∙ rw (prod_comm z x, prod_comm z y) refl

  pub sum_left_comm : (x y z : K) → x ⊕ (y ⊕ z) ≡ y ⊕ (x ⊕ z)
  sum_left_comm x y z = sym (sum_assoc x y z) ∙ ap (λ w. w ⊕ z) (sum_comm x y) ∙ sum_assoc y x z

  pub prod_left_comm : (x y z : K) → x ⊗ (y ⊗ z) ≡ y ⊗ (x ⊗ z)
  prod_left_comm x y z = sym (prod_assoc x y z) ∙ ap (λ w. w ⊗ z) (prod_comm x y) ∙ prod_assoc y x z

  -- two sums of two, added place by place
  pub sum_across : (a b c d : K) → (a ⊕ b) ⊕ (c ⊕ d) ≡ (a ⊕ c) ⊕ (b ⊕ d)
  sum_across a b c d = sum_assoc a b (c ⊕ d) ∙ ap (λ w. a ⊕ w) (sum_left_comm b c d) ∙ sym (sum_assoc a c (b ⊕ d))

  pub opp_cancel : (x y : K) → opp x ⊕ (x ⊕ y) ≡ y
  opp_cancel x y = sym (sum_assoc (opp x) x y) ∙ ap (λ w. w ⊕ y) (opp_sum x) ∙ nil_sum y

  pub sum_cancel : (x y z : K) → x ⊕ y ≡ x ⊕ z → y ≡ z
  sum_cancel x y z e = sym (opp_cancel x y) ∙ ap (λ w. opp x ⊕ w) e ∙ opp_cancel x z

  pub opp_unique : (x y : K) → x ⊕ y ≡ nil → y ≡ opp x
  opp_unique x y e = sum_cancel x y (opp x) (e ∙ sym (sum_opp x))

  pub opp_opp : (x : K) → opp (opp x) ≡ x
  opp_opp x = sym (opp_unique (opp x) x (opp_sum x))

  pub opp_nil : opp nil ≡ nil
  opp_nil = sym (opp_unique nil nil (sum_nil nil))

  pub opp_over_sum : (x y : K) → opp (x ⊕ y) ≡ opp x ⊕ opp y
  opp_over_sum x y =
      sym
      (opp_unique (x ⊕ y) (opp x ⊕ opp y)
      (sum_across x y (opp x) (opp y) ∙ ap (λ w. w ⊕ (y ⊕ opp y)) (sum_opp x) ∙ nil_sum (y ⊕ opp y) ∙ sum_opp y))

  pub difference_nil : (x y : K) → x ⊕ opp y ≡ nil → x ≡ y
  difference_nil x y e = sym (opp_opp x) ∙ ap opp (sym (opp_unique x (opp y) e)) ∙ opp_opp y

  pub prod_nil : (x : K) → x ⊗ nil ≡ nil
  prod_nil x =
      sum_cancel (x ⊗ nil) (x ⊗ nil) nil
      (sym (prod_sum x nil nil) ∙ ap (λ w. x ⊗ w) (sum_nil nil) ∙ sym (sum_nil (x ⊗ nil)))

  pub nil_prod : (x : K) → nil ⊗ x ≡ nil
  nil_prod x = prod_comm nil x ∙ prod_nil x

  pub prod_opp : (x y : K) → x ⊗ opp y ≡ opp (x ⊗ y)
  prod_opp x y =
      opp_unique (x ⊗ y) (x ⊗ opp y) (sym (prod_sum x y (opp y)) ∙ ap (λ w. x ⊗ w) (sum_opp y) ∙ prod_nil x)

  pub opp_prod : (x y : K) → opp x ⊗ y ≡ opp (x ⊗ y)
  opp_prod x y = prod_comm (opp x) y ∙ prod_opp y x ∙ ap opp (prod_comm y x)

  -- an inverse is the only one
  pub inverse_unique : (x y z : K) → x ⊗ y ≡ unit → x ⊗ z ≡ unit → z ≡ y
  inverse_unique x y z p q =
      sym (prod_unit z) ∙ ap (λ w. z ⊗ w) (sym p) ∙ prod_left_comm z x y ∙ sym (prod_assoc x z y)
      ∙ ap (λ w. w ⊗ y) q ∙ unit_prod y

  pub total_append : (xs ys : List K) → total o (xs ++ ys) ≡ total o xs ⊕ total o ys
  total_append [] ys = sym (nil_sum (total o ys))
  total_append (x ∷ xs) ys = ap (λ w. x ⊕ w) (total_append xs ys) ∙ sym (sum_assoc x (total o xs) (total o ys))

  pub product_append : (xs ys : List K) → product o (xs ++ ys) ≡ product o xs ⊗ product o ys
  product_append [] ys = sym (unit_prod (product o ys))
  product_append (x ∷ xs) ys =
      ap (λ w. x ⊗ w) (product_append xs ys) ∙ sym (prod_assoc x (product o xs) (product o ys))

  pub power_add : (x : K) (m n : ℕ) → power o x (m + n) ≡ power o x m ⊗ power o x n
  power_add x zero n = ap (power o x) (zero-add n) ∙ sym (unit_prod (power o x n))
  power_add x (suc m) n =
      ap (power o x) (suc-add m n) ∙ ap (λ w. x ⊗ w) (power_add x m n) ∙ sym (prod_assoc x (power o x m) (power o x n))

  pub power_unit : (n : ℕ) → power o unit n ≡ unit
  power_unit zero = refl
  power_unit (suc n) = unit_prod (power o unit n) ∙ power_unit n

  pub power_mul : (x : K) (m n : ℕ) → power o x (m * n) ≡ power o (power o x n) m
  power_mul x zero n = ap (power o x) (zero-mul n)
  power_mul x (suc m) n =
      ap (power o x) (suc-mul m n) ∙ power_add x (m * n) n ∙ prod_comm (power o x (m * n)) (power o x n)
      ∙ ap (λ w. power o x n ⊗ w) (power_mul x m n)

  pub total_nils : {X : Type 0} (xs : List X) → total o (map (λ _. nil) xs) ≡ nil
  total_nils [] = refl
  total_nils (x ∷ xs) = nil_sum _ ∙ total_nils xs

  pub total_sums :
      {X : Type 0} (f g : X → K) (xs : List X) → total o (map (λ x. f x ⊕ g x) xs) ≡ total o (map f xs) ⊕ total o (map g xs)
  total_sums f g [] = sym (nil_sum nil)
  total_sums f g (x ∷ xs) =
      ap (λ w. (f x ⊕ g x) ⊕ w) (total_sums f g xs) ∙ sum_across (f x) (g x) (total o (map f xs)) (total o (map g xs))

  pub total_scaled : {X : Type 0} (c : K) (f : X → K) (xs : List X) → total o (map (λ x. c ⊗ f x) xs) ≡ c ⊗ total o (map f xs)
  total_scaled c f [] = sym (prod_nil c)
  total_scaled c f (x ∷ xs) =
      ap (λ w. (c ⊗ f x) ⊕ w) (total_scaled c f xs) ∙ sym (prod_sum c (f x) (total o (map f xs)))

  -- a double sum, by rows and by columns
  pub total_swapped :
      {X Y : Type 0} (f : X → Y → K) (xs : List X) (ys : List Y)
      → total o (map (λ x. total o (map (f x) ys)) xs) ≡ total o (map (λ y. total o (map (λ x. f x y) xs)) ys)
  total_swapped f [] ys = sym (total_nils ys)
  total_swapped f (x ∷ xs) ys =
      ap (λ w. total o (map (f x) ys) ⊕ w) (total_swapped f xs ys)
      ∙ sym (total_sums (f x) (λ y. total o (map (λ x. f x y) xs)) ys)

  pub dot_nils : {X : Type 0} (cs : List K) (xs : List X) → dot o cs (map (λ _. nil) xs) ≡ nil
  dot_nils [] xs = refl
  dot_nils (c ∷ cs) [] = refl
  dot_nils (c ∷ cs) (x ∷ xs) = ap₂ ◌⊕◌ (prod_nil c) (dot_nils cs xs) ∙ nil_sum nil

  pub dot_sums :
      {X : Type 0} (f g : X → K) (cs : List K) (xs : List X)
      → dot o cs (map (λ x. f x ⊕ g x) xs) ≡ dot o cs (map f xs) ⊕ dot o cs (map g xs)
  dot_sums f g [] xs = sym (nil_sum nil)
  dot_sums f g (c ∷ cs) [] = sym (nil_sum nil)
  dot_sums f g (c ∷ cs) (x ∷ xs) =
      ap₂ ◌⊕◌ (prod_sum c (f x) (g x)) (dot_sums f g cs xs)
      ∙ sum_across (c ⊗ f x) (c ⊗ g x) (dot o cs (map f xs)) (dot o cs (map g xs))

  pub dot_scaled : {X : Type 0} (b : K) (f : X → K) (cs : List K) (xs : List X) → dot o cs (map (λ x. b ⊗ f x) xs) ≡ b ⊗ dot o cs (map f xs)
  dot_scaled b f [] xs = sym (prod_nil b)
  dot_scaled b f (c ∷ cs) [] = sym (prod_nil b)
  dot_scaled b f (c ∷ cs) (x ∷ xs) =
      ap₂ ◌⊕◌ (prod_left_comm c b (f x)) (dot_scaled b f cs xs) ∙ sym (prod_sum b (c ⊗ f x) (dot o cs (map f xs)))
