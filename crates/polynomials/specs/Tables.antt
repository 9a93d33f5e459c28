-- A table of the powers of 3 in GF(256), and a table of logarithms to the base 3.
use Rattle.std.specs.Prelude.{◌≡◌, ℕ, ◌+◌, ◌<◌, List, length, slice_index, slice_index_or}
use Rattle.polynomials.specs.Polynomials.{times}

-- The first power is one, each is 3 times the one before it, and the last times 3 is the first.
pub record Generated (powers : List ℕ) : Type 0 where
  pub count : length powers ≡ 255
  pub first : slice_index_or powers 0 0 ≡ 1
  pub next : (i : ℕ) → i < 254 → slice_index powers (i + 1) ≡ times 3 (slice_index powers i)
  pub last : times 3 (slice_index powers 254) ≡ slice_index powers 0

-- The logarithm of a power is its place, and the power at the logarithm of a code is the code. Zero, which is no power,
-- has 255.
pub record InverseTables (powers logarithms : List ℕ) : Type 0 where
  pub of_power : (i : ℕ) → i < 255 → slice_index logarithms (slice_index powers i) ≡ i
  pub of_code : (x : ℕ) → 0 < x → x < 256 → slice_index powers (slice_index logarithms x) ≡ x
  pub of_zero : slice_index_or logarithms 0 0 ≡ 255
