-- An algebra on codes keeps the ring laws where its codes stand for the elements of a ring. Assumes nothing.
use Rattle.std.proofs.Common.{◌≡◌, ℕ, ◌<◌, sym, ap, ◌∙◌}
use Rattle.field.specs.Ops.{Ops, Ring}
use Rattle.field.specs.Algebra.{Algebra, RingLaws}

-- Each element has a code, each code below the size is that of an element, and the operations agree.
pub record Stands {K : Type 0} (A : Algebra) (o : Ops K) (code : K → ℕ) : Type 0 where
  pub below : (x : K) → code x < A.size
  pub onto : (n : ℕ) → n < A.size → (x : K) × (code x ≡ n)
  pub nil : code o.nil ≡ 0
  pub unit : code o.unit ≡ 1
  pub sum : (x y : K) → A.sum (code x) (code y) ≡ code (o.sum x y)
  pub prod : (x y : K) → A.prod (code x) (code y) ≡ code (o.prod x y)
  pub opp : (x : K) → A.opp (code x) ≡ code (o.opp x)

module _ {K : Type 0} {A : Algebra} {o : Ops K} {code : K → ℕ} (S : Stands A o code) where
  -- what holds of the codes of elements holds of the codes below the size
  every : (P : ℕ → Type 0) → ((x : K) → P (code x)) → (n : ℕ) → n < A.size → P n
  every P h n l = let x = S.onto n l in rw x.1 at (h x.0)

  every_two : (P : ℕ → ℕ → Type 0) → ((x y : K) → P (code x) (code y)) → (m n : ℕ) → m < A.size → n < A.size → P m n
  every_two P h m n l k = every (λ a. P a n) (λ x. every (P (code x)) (h x) n k) m l

  every_three :
      (P : ℕ → ℕ → ℕ → Type 0)
      → ((x y z : K) → P (code x) (code y) (code z))
      → (m n p : ℕ)
      → m < A.size
      → n < A.size
      → p < A.size
      → P m n p
  every_three P h m n p l k j = every (λ a. P a n p) (λ x. every_two (P (code x)) (h x) n p k j) m l

  pub stands_ring : Ring o → RingLaws A
  stands_ring R =
      record {
        sum_below = every_two (λ a b. A.sum a b < A.size) (λ x y. rw S.sum (S.below _));
        prod_below = every_two (λ a b. A.prod a b < A.size) (λ x y. rw S.prod (S.below _));
        opp_below = every (λ a. A.opp a < A.size) (λ x. rw S.opp (S.below _));
        sum_assoc =
            every_three (λ a b c. A.sum (A.sum a b) c ≡ A.sum a (A.sum b c)) (λ x y z. simp (S.sum, R.sum_assoc));
        sum_comm = every_two (λ a b. A.sum a b ≡ A.sum b a) (λ x y. S.sum x y ∙ ap code (R.sum_comm x y) ∙ sym (S.sum y x));
        sum_zero = every (λ a. A.sum a 0 ≡ a) (λ x. simp (← S.nil, S.sum, R.sum_nil));
        sum_opp = every (λ a. A.sum a (A.opp a) ≡ 0) (λ x. simp (S.opp, S.sum, R.sum_opp, S.nil));
        prod_assoc =
            every_three (λ a b c. A.prod (A.prod a b) c ≡ A.prod a (A.prod b c)) (λ x y z. simp (S.prod, R.prod_assoc));
        prod_comm =
            every_two (λ a b. A.prod a b ≡ A.prod b a) (λ x y. S.prod x y ∙ ap code (R.prod_comm x y) ∙ sym (S.prod y x));
        prod_one = every (λ a. A.prod a 1 ≡ a) (λ x. simp (← S.unit, S.prod, R.prod_unit));
        prod_sum =
            every_three (λ a b c. A.prod a (A.sum b c) ≡ A.sum (A.prod a b) (A.prod a c))
            (λ x y z. simp (S.sum, S.prod, R.prod_sum));
      }
