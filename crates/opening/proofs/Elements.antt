-- A loop over a list, at its element x of index i.
use Rattle.std.proofs.Common.{◌≡◌, ℕ, ◌+◌, ◌-◌, ◌<◌, ◌≤◌, List, [], ◌∷◌, ◌++◌, map, length, get_or, take, drop, set, sym, ap, ◌∙◌, subst, append_assoc, arith}
use Rattle.std.specs.List.{AllByRecursion}
use Rattle.std.proofs.ByRecursion.{All-get_or}
use Rattle.std.proofs.lemmas.List.{drop_more, get_or-map, length-append, length-drop, length-map, length-take-le, map_more, set_at}

module _ {X Y : Type 0} (f : X → Y) (xs : List X) (i : ℕ) (x : X) (less : i < length xs) where
  pub front_length : length (map f (take i xs)) ≡ i
  front_length = length-map (take i xs) f ∙ length-take-le i xs (omega arith)

  pub room : (ys : List Y) (limit : ℕ) → length ys + length xs ≤ limit → length (ys ++ map f (take i xs)) < limit
  room ys limit h = omega (arith, length-append ys (map f (take i xs)), front_length)

  module _ (is : x ≡ get_or xs i x) where
    pub pushed : map f (take (i + 1) xs) ≡ map f (take i xs) ++ (f x ∷ [])
    pushed = map_more f xs i x less ∙ ap (λ y. map f (take i xs) ++ (f y ∷ [])) (sym is)

    pub holds_of : (P : Y → Type 0) → AllByRecursion P (map f xs) → P (f x)
    holds_of P all =
        subst P (get_or-map f xs i x (f x) less ∙ ap f (sym is))
        (All-get_or P (map f xs) i (f x) (omega (arith, length-map xs f)) all)

    pub replaced :
        (ys : List Y)
        → length ys ≡ length xs
        → map f (take (i + 1) xs) ++ drop (i + 1) ys ≡ set (map f (take i xs) ++ drop i ys) (i + 1 - 1) (f x)
    replaced ys same =
        let front = map f (take i xs) in
        let place : i ≡ i + 1 - 1 = omega arith in
        let at = set_at front (get_or ys i (f x)) (drop (i + 1) ys) (f x) i front_length in
        let split : set (front ++ drop i ys) i (f x) ≡ front ++ (f x ∷ drop (i + 1) ys) =
        ap (λ zs. set (front ++ zs) i (f x)) (drop_more ys i (f x) (omega arith)) ∙ at in
        ap (λ zs. zs ++ drop (i + 1) ys) pushed
        ∙ (append_assoc front (f x ∷ []) (drop (i + 1) ys)
        ∙ (sym split ∙ ap (λ k. set (front ++ drop i ys) k (f x)) place))

  pub replaced_length : (ys : List Y) → length ys ≡ length xs → length (map f (take i xs) ++ drop i ys) ≡ length xs
  replaced_length ys same =
      let n : length (drop i ys) ≡ length ys - i = length-drop i ys in
      omega (arith, length-append (map f (take i xs)) (drop i ys), front_length)
