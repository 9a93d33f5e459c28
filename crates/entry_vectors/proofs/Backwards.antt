-- A list worked through from its end.
use Rattle.std.proofs.Common.{◌≡◌, ℕ, ◌<◌, List, [], ◌∷◌, ◌++◌, map, length, get_or, sym, refl, ap, ◌∙◌, subst, arith}
use Rattle.std.specs.Prelude.{reverse}
use Rattle.std.specs.List.{AllByRecursion, fold, zip}
use Rattle.std.proofs.ByRecursion.{All-get_or, All-push}
use Rattle.std.proofs.lemmas.List.{length-reverse, reverse-append}
use Rattle.std.proofs.lemmas.List.Sums.{fold_push}

reverse_more : {X : Type 0} (x : X) (xs : List X) → reverse (x ∷ xs) ≡ reverse xs ++ (x ∷ [])
reverse_more x xs = reverse-append (x ∷ []) xs

-- what a recursion over the list gives, gathered from the last element to the first
pub fold_back :
    {X Y : Type 0} (f : X → Y → Y) (g : List X → Y)
    → ((x : X) (xs : List X) → g (x ∷ xs) ≡ f x (g xs))
    → (xs : List X) → fold (λ y x. f x y) (g []) (reverse xs) ≡ g xs
fold_back f g step [] = refl
fold_back f g step (x ∷ xs) =
    ap (fold (λ y z. f z y) (g [])) (reverse_more x xs)
    ∙ fold_push (λ y z. f z y) (g []) (reverse xs) x
    ∙ ap (f x) (fold_back f g step xs)
    ∙ sym (step x xs)

zip_push :
    {X Y : Type 0} (xs : List X) (ys : List Y) (x : X) (y : Y)
    → length xs ≡ length ys
    → zip (xs ++ (x ∷ [])) (ys ++ (y ∷ [])) ≡ zip xs ys ++ ((x, y) ∷ [])
zip_push [] [] x y e = refl
zip_push [] (b ∷ ys) x y e = absurd (omega arith)
zip_push (a ∷ xs) [] x y e = absurd (omega arith)
zip_push (a ∷ xs) (b ∷ ys) x y e = ap (λ ps. (a, b) ∷ ps) (zip_push xs ys x y (omega arith))

pub zip_reverse : {X Y : Type 0} (xs : List X) (ys : List Y) → length xs ≡ length ys → zip (reverse xs) (reverse ys) ≡ reverse (zip xs ys)
zip_reverse [] [] e = refl
zip_reverse [] (b ∷ ys) e = absurd (omega arith)
zip_reverse (a ∷ xs) [] e = absurd (omega arith)
zip_reverse (a ∷ xs) (b ∷ ys) e =
    let l = length-reverse xs in
    let m = length-reverse ys in
    rw (reverse_more a xs, reverse_more b ys, reverse_more (a, b) (zip xs ys))
    (zip_push (reverse xs) (reverse ys) a b (omega arith) ∙ ap (λ ps. ps ++ ((a, b) ∷ [])) (zip_reverse xs ys (omega arith)))

pub all_reverse : {X : Type 0} (P : X → Type 0) (xs : List X) → AllByRecursion P xs → AllByRecursion P (reverse xs)
all_reverse P [] h = tt
all_reverse P (x ∷ xs) h = subst (AllByRecursion P) (sym (reverse_more x xs)) (All-push P (reverse xs) x (all_reverse P xs h.1) h.0)

pub all_zip :
    {X Y : Type 0} (P : X → Type 0) (Q : Y → Type 0) (xs : List X) (ys : List Y)
    → AllByRecursion P xs → AllByRecursion Q ys → AllByRecursion (λ p. P p.0 × Q p.1) (zip xs ys)
all_zip P Q [] ys h k = tt
all_zip P Q (x ∷ xs) [] h k = tt
all_zip P Q (x ∷ xs) (y ∷ ys) h k = ((h.0, k.0), all_zip P Q xs ys h.1 k.1)

pub all_unmap : {X Y : Type 0} (P : Y → Type 0) (f : X → Y) (xs : List X) → AllByRecursion P (map f xs) → AllByRecursion (λ x. P (f x)) xs
all_unmap P f [] h = tt
all_unmap P f (x ∷ xs) h = (h.0, all_unmap P f xs h.1)

-- what holds of each element holds of the one at a place
pub all_at : {X : Type 0} (P : X → Type 0) (xs : List X) (i : ℕ) (x : X) → AllByRecursion P xs → (i < length xs) × (x ≡ get_or xs i x) → P x
all_at P xs i x h at = subst P (sym at.1) (All-get_or P xs i x at.0 h)
