-- The parts of a line, as bytes: names, numbers, and fields parted by one space.
use Rattle.std.specs.Prelude.{◌≡◌, ℕ, ◌^◌, ◌<◌, Bool, false, ◌&&◌, ◌||◌, List, [], ◌∷◌, ◌++◌, length, decimal, ◌==◌, ◌≢◌, nat_le}
use Rattle.std.specs.List.{AllByRecursion, list_all}

-- no byte of the list is b
abbrev pub Lacks : ℕ → List ℕ → Type 0
Lacks b xs = AllByRecursion (λ x. x ≢ b) xs

-- a text cut at its first stop, into the bytes before it and those after it
abbrev pub Cut : ℕ → List ℕ → List ℕ → List ℕ → Type 0
Cut stop text front rest = (text ≡ front ++ (stop ∷ rest)) × Lacks stop front

-- a small letter
abbrev pub small : ℕ → Bool
small b = nat_le 97 b && nat_le b 122

-- a small letter, a digit or an underscore
abbrev pub inner : ℕ → Bool
inner b = small b || ((nat_le 48 b && nat_le b 57) || b == 95)

-- a name has 1 to 8 bytes: a small letter, then small letters, digits or underscores
abbrev pub is_name : List ℕ → Bool
is_name [] = false
is_name (b ∷ bs) = small b && (list_all inner bs && nat_le (length bs) 7)

-- a number is written in decimal, without leading zeros, and is at most 4,294,967,295
abbrev pub Number : List ℕ → ℕ → Type 0
Number bytes n = (n < 2 ^ 32) × (bytes ≡ decimal n)

-- fields parted by one space
abbrev pub spaced : List (List ℕ) → List ℕ
spaced [] = []
spaced (f ∷ []) = f
spaced (f ∷ g ∷ fs) = f ++ (32 ∷ spaced (g ∷ fs))
