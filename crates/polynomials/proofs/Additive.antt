-- Functions that are additive for exclusive or: two of them agree once they agree at the powers of two. Assumes nothing.
use Rattle.std.proofs.Common.{◌≡◌, ℕ, zero, suc, ◌+◌, ◌-◌, ◌*◌, ◌^◌, ◌<◌, ◌≤◌, sym, refl, ap, ◌∙◌, ap₂, ⊎_elim, add-zero, one-mul, pow-suc, arith, pow_pos}
use lib.Bits.{bit_xor, xor_self, xor_assoc, xor_comm, xor_block, xor_shifted}
use Rattle.std.proofs.lemmas.Bool.{cases_lt}

pub record Additive (f : ℕ → ℕ) : Type 0 where
  pub over : (x y : ℕ) → f (bit_xor x y) ≡ bit_xor (f x) (f y)

pub identity : Additive (λ x. x)
identity = record { over = λ x y. refl }

pub compose : {f g : ℕ → ℕ} → Additive f → Additive g → Additive (λ x. f (g x))
compose {f} {g} hf hg = record { over = λ x y. ap f (hg.over x y) ∙ hf.over (g x) (g y) }

interchange : (a b c d : ℕ) → bit_xor (bit_xor a b) (bit_xor c d) ≡ bit_xor (bit_xor a c) (bit_xor b d)
interchange a b c d =
    xor_assoc a b (bit_xor c d)
    ∙ ap (bit_xor a) (sym (xor_assoc b c d) ∙ ap (λ z. bit_xor z d) (xor_comm b c) ∙ xor_assoc c b d)
    ∙ sym (xor_assoc a c (bit_xor b d))

pub add : {f g : ℕ → ℕ} → Additive f → Additive g → Additive (λ x. bit_xor (f x) (g x))
add {f} {g} hf hg =
    record { over = λ x y. ap₂ bit_xor (hf.over x y) (hg.over x y) ∙ interchange (f x) (f y) (g x) (g y) }

pub shift : (n : ℕ) → Additive (λ x. x * 2 ^ n)
shift n =
    record {
      over = λ x y. sym
          (ap₂ bit_xor (sym (add-zero (x * 2 ^ n))) (sym (add-zero (y * 2 ^ n)))
          ∙ xor_block n x y 0 0 (pow_pos n) (pow_pos n) ∙ add-zero _);
    }

pub at_zero : {f : ℕ → ℕ} → Additive f → f 0 ≡ 0
at_zero {f} h = h.over 0 0 ∙ xor_self (f 0)

-- a number of n + 1 bits is its highest bit and the rest
top : (n x : ℕ) → x - 2 ^ n < 2 ^ n → 2 ^ n ≤ x → x ≡ bit_xor (2 ^ n) (x - 2 ^ n)
top n x low le =
    let e : bit_xor (2 ^ n) (x - 2 ^ n) ≡ 2 ^ n + (x - 2 ^ n) = rw one-mul at (xor_shifted 1 n (x - 2 ^ n) low) in omega arith

pub lift :
    {f g : ℕ → ℕ}
    → Additive f
    → Additive g
    → (n : ℕ)
    → ((i : ℕ) → i < n → f (2 ^ i) ≡ g (2 ^ i))
    → (x : ℕ)
    → x < 2 ^ n
    → f x ≡ g x
lift hf hg zero same x h = let e : x ≡ 0 = omega arith in rw e (at_zero hf ∙ sym (at_zero hg))
lift {f} {g} hf hg (suc n) same x h =
    let rest : (y : ℕ) → y < 2 ^ n → f y ≡ g y = lift hf hg n (λ i l. same i (omega arith)) in
    ⊎_elim (rest x)
    (λ (le : 2 ^ n ≤ x).
    let r : ℕ = x - 2 ^ n in
    let low : r < 2 ^ n = omega (arith, pow-suc 2 n) in
    rw (top n x low le) (hf.over (2 ^ n) r ∙ ap₂ bit_xor (same n (omega arith)) (rest r low) ∙ sym (hg.over (2 ^ n) r)))
    (cases_lt x (2 ^ n))

-- the same of two arguments
pub record Biadditive (F : ℕ → ℕ → ℕ) : Type 0 where
  pub left : (y : ℕ) → Additive (λ x. F x y)
  pub right : (x : ℕ) → Additive (F x)

pub lift_both :
    {F G : ℕ → ℕ → ℕ}
    → Biadditive F
    → Biadditive G
    → (n : ℕ)
    → ((i : ℕ) → i < n → (j : ℕ) → j < n → F (2 ^ i) (2 ^ j) ≡ G (2 ^ i) (2 ^ j))
    → (x y : ℕ)
    → x < 2 ^ n
    → y < 2 ^ n
    → F x y ≡ G x y
lift_both hF hG n same x y hx hy =
    lift (hF.left y) (hG.left y) n (λ i hi. lift (hF.right (2 ^ i)) (hG.right (2 ^ i)) n (same i hi) y hy) x hx
