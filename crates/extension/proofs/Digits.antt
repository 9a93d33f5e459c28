-- A code of the extension has two digits in the base's size. Assumes nothing.
use Rattle.std.proofs.Common.{◌≡◌, ℕ, ◌*◌, ◌^◌, ◌<◌, ◌≤◌, ◌∙◌, ap₂, mod-lt, mod-eq_of_lt, zero-add, arith}
use native.Mathlib.Nat.{mod-add-div, add-mul-mod_self_left, add-mul-div_left, div-eq_of_lt}
use Rattle.std.proofs.lemmas.Nat.{mul-le, mul-add-lt, div_below}
use Rattle.extension.specs.Extension.{encode, decode}

pub encode_below : (q a b : ℕ) → a < q → b < q → encode q (a, b) < q * q
encode_below q a b ha hb = omega (arith, mul-add-lt b q a q hb ha)

pub square_fits : (q : ℕ) → q ≤ 65536 → q * q ≤ 2 ^ 32
square_fits q h = mul-le q q 65536 65536 h h

pub low_below : (q x : ℕ) → 1 ≤ q → (decode q x).0 < q
low_below q x h = mod-lt x h

pub high_below : (q x : ℕ) → 1 ≤ q → x < q * q → (decode q x).1 < q
high_below q x h l = div_below x q q h l

pub decode_encode : (q a b : ℕ) → a < q → decode q (encode q (a, b)) ≡ (a, b)
decode_encode q a b h =
    ap₂ (λ x y. (x, y)) (add-mul-mod_self_left a q b ∙ mod-eq_of_lt h)
    (add-mul-div_left a b (omega arith) ∙ rw (div-eq_of_lt h) (zero-add b))

pub encode_decode : (q x : ℕ) → encode q (decode q x) ≡ x
encode_decode q x = mod-add-div x q
