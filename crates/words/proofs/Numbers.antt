-- Decimals of numbers below 2 ^ 32: what they look like, and when a list is none.
use Rattle.std.proofs.Common.{◌≡◌, ℕ, zero, suc, ◌+◌, ◌-◌, ◌*◌, ◌/◌, ◌%◌, ◌^◌, ◌<◌, ◌≤◌, List, [], ◌∷◌, ◌++◌, length, get_or, decimal, sym, ap, ◌∙◌, subst, arith, rules}
use Rattle.std.specs.Int.{IsInRange}
use Rattle.std.proofs.lemmas.Fmt.{decimal_digit, decimal_step, decimal_nonempty, length-decimal-le, first_decimal, digits_decimal, digits_value-decimal, decimal-digits_value, decimal_injective}
use Rattle.std.proofs.ByRecursion.{All-from_get_or}
use Rattle.std.proofs.lemmas.Str.Parse.{IsNumeralModel, numerals_by_fold, tells_by_index}
use Rattle.words.proofs.Lines.{Field}
use Rattle.words.specs.Words.{Number, Lacks}

-- each byte is a digit
abbrev pub Digital : List ℕ → Type 0
Digital bs = (i : ℕ) → i < length bs → IsInRange 48 57 (get_or bs i 0)

-- the number that digits write after the number n
abbrev pub read : ℕ → List ℕ → ℕ
read n [] = n
read n (b ∷ bs) = read (n * 10 + (b - 48)) bs

pub numerals : IsNumeralModel Digital (read 0)
numerals = numerals_by_fold _ tells_by_index read (search rules)

module _ (n : ℕ) (small : n < 2 ^ 32) where
  pub decimal_some_32 : 1 ≤ length (decimal n)
  decimal_some_32 = decimal_nonempty n (omega arith)

  pub decimal_short : length (decimal n) ≤ 10
  decimal_short = length-decimal-le 10 n (omega arith) (omega arith) (omega arith)

  pub decimal_digital : Digital (decimal n)
  decimal_digital = digits_decimal numerals n (omega arith)

  pub decimal_lacks : (b : ℕ) → b < 48 → Lacks b (decimal n)
  decimal_lacks b less = All-from_get_or _ (decimal n) 0 (λ i h e. let d = decimal_digital i h in omega arith)

pub same_from_decimal_32 : (m n : ℕ) → m < 2 ^ 32 → n < 2 ^ 32 → decimal m ≡ decimal n → m ≡ n
same_from_decimal_32 m n hm hn e = decimal_injective m n (omega arith) (omega arith) e

-- what a number looks like
pub record Shape (bs : List ℕ) (n : ℕ) : Type 0 where
  pub some : 1 ≤ length bs
  pub lead : get_or bs 0 0 ≡ 48 → length bs ≡ 1
  pub digital : Digital bs
  pub value : read 0 bs ≡ n

decimal_lead : (n : ℕ) → n < 2 ^ 32 → get_or (decimal n) 0 0 ≡ 48 → length (decimal n) ≡ 1
decimal_lead zero small e = ap length (decimal_digit 0 (omega arith))
decimal_lead (suc n) small e = absurd (omega (arith, first_decimal (suc n) (omega arith) (omega arith)))

pub number_shape : (bs : List ℕ) (n : ℕ) → Number bs n → Shape bs n
number_shape bs n (small, e) = subst (λ xs. Shape xs n) (sym e) (record {
  some = decimal_some_32 n small;
  lead = decimal_lead n small;
  digital = decimal_digital n small;
  value = digits_value-decimal numerals n (omega arith);
})

pub number_of : (bs : List ℕ) (n : ℕ) → n < 2 ^ 32 → Shape bs n → Number bs n
number_of bs n small s =
    let e = decimal-digits_value numerals bs s.digital s.some s.lead (omega (arith, s.value)) in
    let v = s.value in
    (small, cc)

-- more digits write no smaller number
pub read-le : (n : ℕ) (bs : List ℕ) → n ≤ read n bs
read-le n [] = omega arith
read-le n (b ∷ bs) = omega (arith, read-le (n * 10 + (b - 48)) bs)

-- a decimal is the digits before the last one, and the last one
pub last_only : (n : ℕ) → n < 10 → decimal n ≡ (48 + n % 10) ∷ []
last_only n less = decimal_digit n less ∙ ap (λ d. (48 + d) ∷ []) (omega arith)

pub last_after : (n : ℕ) → 10 ≤ n → n < 2 ^ 32 → decimal n ≡ decimal (n / 10) ++ ((48 + n % 10) ∷ [])
last_after n more small = decimal_step n more (omega arith)

pub decimal_field : (n : ℕ) → n < 2 ^ 32 → Field (decimal n)
decimal_field n small = (decimal_some_32 n small, decimal_lacks n small 32 (omega arith))
