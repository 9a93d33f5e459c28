-- The residues modulo p are a commutative ring. Assumes nothing.
use Rattle.std.specs.Prelude.{◌≡◌, ℕ, ◌+◌, ◌-◌, ◌*◌, ◌/◌, ◌%◌, ◌<◌, ◌≤◌}
use Rattle.std.proofs.Common.{sym, ap, ◌∙◌, add-zero, add_comm, add_assoc, mul_comm, mul_assoc, mul-add, mul-one, mul_left_comm, add-sub_of_le, le_of_lt, mod-lt, mod-eq_of_lt, arith}
use Rattle.std.proofs.Math.Nat.{mod_self, mod-add-div, mod-add-mod, add-mod-mod, add-mul-mod_self_left}
use Rattle.field.specs.Algebra.{RingLaws}
use Rattle.prime.specs.Residues.{residues}

mul_mod_mod : (a b m : ℕ) → (a * (b % m)) % m ≡ (a * b) % m
mul_mod_mod a b m =
    sym
    (ap (λ n. (a * n) % m) (sym (mod-add-div b m)) ∙ rw (mul-add, mul_left_comm a m (b / m)) (add-mul-mod_self_left _ m _))

pub mod_mul_mod : (a b m : ℕ) → ((a % m) * b) % m ≡ (a * b) % m
mod_mul_mod a b m = rw (mul_comm (a % m) b, mul_comm a b) (mul_mod_mod b a m)

pub residue_ring : (p : ℕ) → 2 ≤ p → RingLaws (residues p)
residue_ring p two =
    let below : (n : ℕ) → n % p < p = λ n. mod-lt n (omega arith) in
    record {
      sum_below = λ x y hx hy. below (x + y);
      prod_below = λ x y hx hy. below (x * y);
      opp_below = λ x hx. below (p - x);
      sum_assoc = λ x y z hx hy hz. simp (mod-add-mod, add-mod-mod, add_assoc);
      sum_comm = λ x y hx hy. ap (λ n. n % p) (add_comm x y);
      sum_zero = λ x hx. rw add-zero (mod-eq_of_lt hx);
      sum_opp = λ x hx. add-mod-mod x (p - x) p ∙ ap (λ n. n % p) (add-sub_of_le (le_of_lt hx)) ∙ mod_self p;
      prod_assoc = λ x y z hx hy hz. simp (mod_mul_mod, mul_mod_mod, mul_assoc);
      prod_comm = λ x y hx hy. ap (λ n. n % p) (mul_comm x y);
      prod_one = λ x hx. rw mul-one (mod-eq_of_lt hx);
      prod_sum = λ x y z hx hy hz. simp (mul_mod_mod, mod-add-mod, add-mod-mod, mul-add);
    }
