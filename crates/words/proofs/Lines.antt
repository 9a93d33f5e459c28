-- A text is cut at a byte in one way, and so is a line of fields parted by spaces.
use Rattle.std.proofs.Common.{◌≡◌, ℕ, ◌+◌, ◌-◌, ◌<◌, ◌≤◌, List, [], ◌∷◌, ◌++◌, length, get_or, take, drop, sym, refl, ap, arith, take-append-drop}
use Rattle.std.specs.List.{AllByRecursion, AllWithin}
use Rattle.std.proofs.ByRecursion.{All-append, All-from_get_or}
use Rattle.std.proofs.lemmas.List.{drop_more, take_rest, length-take-le, get_or-take}
use Rattle.std.specs.Prelude.{◌≢◌}
use Rattle.words.specs.Words.{Cut, Lacks, spaced}

module _ (b : ℕ) where
  -- a text is cut where b first stands
  pub cut_at : (xs : List ℕ) (i : ℕ) → i < length xs → get_or xs i 0 ≡ b → Lacks b (take i xs) → Cut b xs (take i xs) (take (length xs - (i + 1)) (drop (i + 1) xs))
  cut_at xs i less here h =
      let e = drop_more xs i 0 less in
      let f = take_rest xs (i + 1) in
      let g = take-append-drop i xs in
      (cc, h)

  -- the bytes before a place, none of which is b
  pub lacks_before : (xs : List ℕ) (i : ℕ) → i ≤ length xs → AllWithin (λ x. x ≢ b) xs 0 i → Lacks b (take i xs)
  lacks_before xs i less h =
      All-from_get_or _ (take i xs) 0 (λ k below. let small : k < i = omega (arith, length-take-le i xs less) in rw (get_or-take) (h k 0 (omega arith) small))

  pub cut_unique : (xs xs' ys ys' : List ℕ) → Lacks b xs → Lacks b xs' → xs ++ (b ∷ ys) ≡ xs' ++ (b ∷ ys') → (xs ≡ xs') × (ys ≡ ys')
  cut_unique [] [] ys ys' h h' e = (refl, cc)
  cut_unique [] (x ∷ xs') ys ys' h h' e = absurd (h'.0 (cc))
  cut_unique (x ∷ xs) [] ys ys' h h' e = absurd (h.0 (cc))
  cut_unique (x ∷ xs) (x' ∷ xs') ys ys' h h' e =
      let r = cut_unique xs xs' ys ys' h.1 h'.1 (cc) in
      let same = r.0 in
      (cc, r.1)

  -- a list that lacks b is not cut at b
  pub lacks_cut : (xs front rest : List ℕ) → Lacks b xs → xs ≡ front ++ (b ∷ rest) → ⊥
  lacks_cut [] [] rest h e = omega (arith, ap length e)
  lacks_cut [] (y ∷ front) rest h e = omega (arith, ap length e)
  lacks_cut (x ∷ xs) [] rest h e = h.0 (cc)
  lacks_cut (x ∷ xs) (y ∷ front) rest h e = lacks_cut xs front rest h.1 (cc)

  pub spaced_lacks : (32 ≡ b → ⊥) → (fs : List (List ℕ)) → AllByRecursion (Lacks b) fs → Lacks b (spaced fs)
  spaced_lacks apart [] h = tt
  spaced_lacks apart (f ∷ []) h = h.0
  spaced_lacks apart (f ∷ g ∷ fs) h = All-append _ f _ h.0 (apart, spaced_lacks apart (g ∷ fs) h.1)

-- a field of a line: not empty, and with no space
abbrev pub Field : List ℕ → Type 0
Field f = (0 < length f) × Lacks 32 f

-- the first field is not empty, so the line is not
spaced_some : (f : List ℕ) (fs : List (List ℕ)) → Field f → [] ≡ spaced (f ∷ fs) → ⊥
spaced_some [] fs h e = omega (arith, h.0)
spaced_some (x ∷ f) [] h e = omega (arith, ap length e)
spaced_some (x ∷ f) (g ∷ fs) h e = omega (arith, ap length e)

pub spaced_same : (fs gs : List (List ℕ)) → AllByRecursion Field fs → AllByRecursion Field gs → spaced fs ≡ spaced gs → fs ≡ gs
spaced_same [] [] h k e = refl
spaced_same [] (g ∷ gs) h k e = absurd (spaced_some g gs k.0 e)
spaced_same (f ∷ fs) [] h k e = absurd (spaced_some f fs h.0 (sym e))
spaced_same (f ∷ []) (g ∷ []) h k e = ap (λ x. x ∷ []) e
spaced_same (f ∷ []) (g ∷ g' ∷ gs) h k e = absurd (lacks_cut 32 f g _ h.0.1 e)
spaced_same (f ∷ f' ∷ fs) (g ∷ []) h k e = absurd (lacks_cut 32 g f _ k.0.1 (sym e))
spaced_same (f ∷ f' ∷ fs) (g ∷ g' ∷ gs) h k e =
    let r = cut_unique 32 f g _ _ h.0.1 k.0.1 e in
    let first = r.0 in
    let rest = spaced_same (f' ∷ fs) (g' ∷ gs) h.1 k.1 r.1 in
    cc
