-- How lines are made of fields, names are looked up, and writing goes on.
use Rattle.std.proofs.Common.{◌≡◌, ℕ, ◌+◌, ◌-◌, ◌^◌, ◌<◌, ◌≤◌, List, [], ◌∷◌, ◌++◌, map, length, get_or, sym, refl, ap, ◌∙◌, append_assoc}
use Rattle.std.specs.Prelude.{min}
use Rattle.std.specs.List.{flat_map}
use Rattle.std.proofs.lemmas.List.{get_or-map, get_or_past, length-map}
use Rattle.words.specs.Puts.{Writes, overlaid}
use Rattle.words.specs.Words.{spaced}
use Rattle.words.specs.declared.pen.Pen.{Pen}
use Rattle.line_writer.specs.Writing.{after_space, named}

-- what follows the first field of a line
abbrev pub rest : List (List ℕ) → List ℕ
rest [] = 10 ∷ []
rest (f ∷ fs) = 32 ∷ (f ++ rest fs)

-- a line is its first field and the rest
pub line_is : (f : List ℕ) (fs : List (List ℕ)) → f ++ rest fs ≡ spaced (f ∷ fs) ++ (10 ∷ [])
line_is f [] = refl
line_is f (g ∷ gs) = ap (λ t. f ++ (32 ∷ t)) (line_is g gs) ∙ sym (append_assoc f (32 ∷ spaced (g ∷ gs)) (10 ∷ []))

-- the rest of a line from its fields one by one
pub rest_is : (fs : List (List ℕ)) → flat_map after_space fs ++ (10 ∷ []) ≡ rest fs
rest_is [] = refl
rest_is (f ∷ fs) = ap (λ t. 32 ∷ t) (append_assoc f (flat_map after_space fs) (10 ∷ []) ∙ ap (λ t. f ++ t) (rest_is fs))

-- the name with a number in a table, where the place before the number is in the table, and past its end
module _ {X : Type 0} (called : X → List ℕ) (xs : List X) {i : ℕ} (k : ℕ) (e : i ≡ k - 1) where
  pub name_at : (x : X) → i < length xs → x ≡ get_or xs i x → called x ≡ named (map called xs) k
  name_at x l r = ap called r ∙ sym (get_or-map called xs i x [] l) ∙ ap (λ j. get_or (map called xs) j []) e

  pub name_past : length xs ≤ i → [] ≡ named (map called xs) k
  name_past l = sym (get_or_past (map called xs) (k - 1) [] (rw (← e) (simp length-map l)))

-- what is written where a pen stands is written by that pen
pub from_there : {a b c : Pen} {xs : List ℕ} → Writes b xs c → b.out.ghost_name ≡ a.out.ghost_name → b.out.now ≡ a.out.now → b.at ≡ a.at → Writes a xs c
from_there {a} {b} {c} {xs} p same holds place =
    record {
      same_buffer = p.same_buffer ∙ same;
      place = p.place ∙ ap (λ k. min (k + length xs) (2 ^ 64 - 1)) place;
      put = p.put ∙ ap (λ o. overlaid o b.at xs) holds ∙ ap (λ k. overlaid a.out.now k xs) place;
    }
