-- Polynomials over the field of two elements, written as numbers: bit i is the coefficient of the i-th power.
-- The sum of two is bit_xor.
use Rattle.std.specs.Prelude.{ℕ, zero, suc, ◌+◌, ◌*◌, ◌/◌, ◌%◌, ◌^◌, bit_xor}
use Rattle.field.specs.Algebra.{Algebra}

-- the coefficient of the i-th power in p
abbrev pub coefficient : ℕ → ℕ → ℕ
coefficient p i = p / 2 ^ i % 2

-- p times the i-th power, times the coefficient c
abbrev pub scaled : ℕ → ℕ → ℕ → ℕ
scaled c i p = c * (p * 2 ^ i)

-- the product of p and the terms of q below the n-th power
abbrev pub carryless : ℕ → ℕ → ℕ → ℕ
carryless zero p q = 0
carryless (suc n) p q = bit_xor (carryless n p q) (scaled (coefficient q n) n p)

-- x^8 + x^4 + x^3 + x + 1
abbrev pub modulus : ℕ
modulus = 2 ^ 8 + 2 ^ 4 + 2 ^ 3 + 2 ^ 1 + 2 ^ 0

-- the remainder of p, of degree below 8 + n, modulo that polynomial, by long division: its multiples take away the terms
-- of p from the highest down to the eighth power
abbrev pub remainder : ℕ → ℕ → ℕ
remainder zero p = p
remainder (suc n) p = remainder n (bit_xor p (scaled (coefficient p (8 + n)) n modulus))

-- the product of two elements
unfoldable pub times : ℕ → ℕ → ℕ
times a b = remainder 8 (carryless 8 a b)

-- GF(256). Each element is its own negative.
abbrev pub gf256 : Algebra
gf256 = record { size = 256; sum = bit_xor; prod = times; opp = λ a. a }
