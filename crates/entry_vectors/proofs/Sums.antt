-- The sums over the rules that lead to a state, gathered rule by rule from the last.
use Rattle.std.proofs.Common.{◌≡◌, ℕ, zero, suc, ◌-◌, ◌<◌, ◌≤◌, Bool, true, false, cond, ◌&&◌, eqb, ◌≢◌, List, [], ◌∷◌, ◌++◌, map, length, get_or, take, replicate, sym, refl, ap, ◌∙◌, inl, inr, arith, length-set}
use lib.ListN.{length-map, get_or-replicate}
use Rattle.std.proofs.lemmas.List.Sums.{fold_push}
use Rattle.std.proofs.lemmas.List.{ext_get_or, map_push, get_or-map, get_or-set_other, get_or-set_same, get_or-take, length-take-le}
use Rattle.std.proofs.lemmas.Bool.Decides.{eqb_tells}
use Rattle.field.specs.Ops.{Ops, total}
use Rattle.equivalence.specs.Automata.{Rule, Automaton, states, numbers, leading}
use Rattle.equivalence.specs.Entries.{Entry}
use Rattle.equivalence.specs.Valuing.{through, entry_vector}
use Rattle.equivalence.proofs.Lists.{getD_numbers}
use Rattle.equivalence.proofs.Members.{length_numbers}
use Rattle.std.specs.Prelude.{reverse}
use Rattle.std.specs.List.{fold}
use Rattle.entry_vectors.specs.Combining.{added}
use Rattle.entry_vectors.proofs.Backwards.{fold_back}

module _ (o : Ops ℕ) where
  pub length_added : (t x : ℕ) (v : List ℕ) → length (added o t x v) ≡ length v
  length_added zero x v = refl
  length_added (suc t) x v = length-set v t _

  added_read :
      (t x s : ℕ) (v : List ℕ)
      → s < length v
      → get_or (added o t x v) s o.nil ≡ cond (eqb t (suc s)) (o.sum x (get_or v s o.nil)) (get_or v s o.nil)
  added_read zero x s v h = elim (eqb_tells 0 (suc s)) [ inl p ↦ absurd (omega (arith, p.1)) | inr p ↦ rw p.0 ]
  added_read (suc t) x s v h =
      elim (eqb_tells (suc t) (suc s)) [
        | inl p ↦
            let e : t ≡ s = omega (arith, p.1) in
            rw (p.0, e, get_or-set_same v s _ o.nil h)
        | inr p ↦
            let ne : s ≢ t = λ e. p.1 (ap suc (sym e)) in
            rw (p.0, get_or-set_other v t s _ o.nil ne)
      ]

  -- the element so far of the rules that lead to a state, by the tests of one rule more
  one_more : {X : Type 0} (f : X → ℕ) (b t : Bool) (r : X) (rs : List X) (old : ℕ) → old ≡ total o (map f rs) → cond b (cond t (o.sum (f r) old) old) old ≡ total o (map f (cond (b && t) (r ∷ rs) rs))
  one_more f true true r rs old e = ap (o.sum (f r)) e
  one_more f true false r rs old e = e
  one_more f false true r rs old e = e
  one_more f false false r rs old e = e

  read_cond : (b : Bool) (v w : List ℕ) (s : ℕ) → get_or (cond b v w) s o.nil ≡ cond b (get_or v s o.nil) (get_or w s o.nil)
  read_cond true v w s = refl
  read_cond false v w s = refl

  length_cond : (b : Bool) (v w : List ℕ) (n : ℕ) → length v ≡ n → length w ≡ n → length (cond b v w) ≡ n
  length_cond true v w n h k = h
  length_cond false v w n h k = k

  module _ (vs : List (List ℕ)) (e : Entry) where
    -- the vector of an entry after one rule more: of the entry's symbol, it adds its weight times the product through the children
    abbrev pub led : Rule ℕ → List ℕ → List ℕ
    led r vector = cond (eqb r.symbol e.symbol) (added o r.target (o.prod r.weight (through o vs e.children r.children)) vector) vector

    abbrev term : Rule ℕ → ℕ
    term r = o.prod r.weight (through o vs e.children r.children)

    -- the vector after these rules
    abbrev pub gathered : List (Rule ℕ) → List ℕ
    gathered [] = replicate 12 o.nil
    gathered (r ∷ rs) = led r (gathered rs)

    pub length_gathered : (rs : List (Rule ℕ)) → length (gathered rs) ≡ 12
    length_gathered [] = refl
    length_gathered (r ∷ rs) =
        length_cond (eqb r.symbol e.symbol) _ (gathered rs) 12 (length_added r.target (term r) (gathered rs) ∙ length_gathered rs) (length_gathered rs)

    gathered_at : (rs : List (Rule ℕ)) (s : ℕ) → s < 12 → get_or (gathered rs) s o.nil ≡ total o (map term (leading rs e.symbol (suc s)))
    gathered_at [] s h = get_or-replicate 12 s o.nil o.nil h
    gathered_at (r ∷ rs) s h =
        let l = length_gathered rs in
        let b = eqb r.symbol e.symbol in
        read_cond b (added o r.target (term r) (gathered rs)) (gathered rs) s
        ∙ ap (λ y. cond b y (get_or (gathered rs) s o.nil)) (added_read r.target (term r) s (gathered rs) (omega arith))
        ∙ one_more term b (eqb r.target (suc s)) r (leading rs e.symbol (suc s)) (get_or (gathered rs) s o.nil) (gathered_at rs s h)

    gathered_vector : (M : Automaton ℕ) → states M ≤ 12 → take (states M) (gathered M.rules) ≡ entry_vector o M vs e
    gathered_vector M h =
        let n = states M in
        let g = gathered M.rules in
        let sums : ℕ → ℕ = λ s. total o (map term (leading M.rules e.symbol s)) in
        let lg = length_gathered M.rules in
        let lt : length (take n g) ≡ n = length-take-le n g (omega arith) in
        let ln = length_numbers n in
        let lm : length (map sums (numbers n)) ≡ length (numbers n) = length-map (numbers n) sums in
        ext_get_or o.nil (take n g) (map sums (numbers n)) (omega arith)
        (λ i k.
        let one : suc i - 1 ≡ i = omega arith in
        get_or-take n g i o.nil (omega arith)
        ∙ gathered_at M.rules i (omega arith)
        ∙ sym (get_or-map sums (numbers n) i 0 o.nil (omega arith)
        ∙ ap sums (ap (λ j. get_or (numbers n) j 0) (sym one) ∙ getD_numbers n (suc i) 0 (omega arith) (omega arith))))

    -- what a rule of the entry's symbol adds
    pub led_is :
        (r : Rule ℕ) (v w : List ℕ) (p x : ℕ)
        → r.symbol ≡ e.symbol
        → p ≡ through o vs e.children r.children
        → x ≡ o.prod r.weight p
        → w ≡ added o r.target x v
        → w ≡ led r v
    led_is r v w p x same through_is times plus =
        elim (eqb_tells r.symbol e.symbol) [
          | inl t ↦ rw t.0 (plus ∙ ap (λ y. added o r.target y v) (times ∙ ap (o.prod r.weight) through_is))
          | inr t ↦ absurd (t.1 same)
        ]

    pub led_more :
        {X Y : Type 0} (f : Y → Rule ℕ) (now : X → Y) (xs : List X) (x : X) (first v w : List ℕ)
        → v ≡ fold (λ u y. led (f y) u) first (map now xs)
        → w ≡ led (f (now x)) v
        → w ≡ fold (λ u y. led (f y) u) first (map now (xs ++ (x ∷ [])))
    led_more f now xs x first v w was is =
        is
        ∙ ap (led (f (now x))) was
        ∙ sym (ap (fold (λ u y. led (f y) u) first) (map_push now xs x) ∙ fold_push (λ u y. led (f y) u) first (map now xs) (now x))

    -- gathered from the last rule to the first, of the rules of an automaton
    pub gathered_back :
        {X : Type 0} (f : X → Rule ℕ) (xs ys : List X) (M : Automaton ℕ)
        → states M ≤ 12
        → map f xs ≡ M.rules
        → ys ≡ reverse xs
        → take (states M) (fold (λ v x. led (f x) v) (replicate 12 o.nil) ys) ≡ entry_vector o M vs e
    gathered_back f xs ys M few holds are =
        ap (λ zs. take (states M) (fold (λ v x. led (f x) v) (replicate 12 o.nil) zs)) are
        ∙ ap (take (states M)) (fold_back (λ x v. led (f x) v) (λ zs. gathered (map f zs)) (λ x zs. refl) xs ∙ ap gathered holds)
        ∙ gathered_vector M few
