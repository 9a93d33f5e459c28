-- How writes follow one another.
use Rattle.std.proofs.Common.{◌≡◌, ℕ, suc, ◌+◌, ◌-◌, ◌≤◌, ◌<◌, ◌^◌, List, [], ◌∷◌, ◌++◌, map, length, get_or, take, drop, set, sym, refl, ap, ◌∙◌, subst, inl, inr, add-zero, add-suc, suc-add, zero-add, arith, length-append, length-take-le, take-append-drop}
use Rattle.std.specs.Prelude.{min}
use Rattle.std.specs.List.{flat_map}
use lib.Seq.{sets, length-sets, sets-eq}
use Rattle.std.proofs.lemmas.Bool.{cases_lt}
use Rattle.std.proofs.lemmas.List.{take_at, drop_at, set_past, take_all, drop_all, take_more, flat_map_more, map_push}
use Rattle.words.specs.Puts.{Writes, overlaid}
use Rattle.words.specs.declared.pen.Pen.{Pen}

overlaid_is : (out : List ℕ) (at : ℕ) (bs : List ℕ) → overlaid out at bs ≡ sets out at bs
overlaid_is out at [] = refl
overlaid_is out at (b ∷ bs) = overlaid_is (set out at b) (suc at) bs

pub put_length : (out : List ℕ) (at : ℕ) (bs : List ℕ) → length (overlaid out at bs) ≡ length out
put_length out at bs = ap length (overlaid_is out at bs) ∙ length-sets out at bs

-- one write after another is the write of both
pub put_append : (out : List ℕ) (at : ℕ) (xs ys : List ℕ) → overlaid (overlaid out at xs) (at + length xs) ys ≡ overlaid out at (xs ++ ys)
put_append out at [] ys = rw add-zero
put_append out at (x ∷ xs) ys = rw (add-suc, ← suc-add) (put_append (set out at x) (suc at) xs ys)

-- past its end a buffer stays as it is
pub put_past : (out : List ℕ) (at : ℕ) (bs : List ℕ) → length out ≤ at → overlaid out at bs ≡ out
put_past out at [] past = refl
put_past out at (b ∷ bs) past = rw (set_past out at b past) (put_past out (suc at) bs (omega arith))

-- of the bytes a buffer takes those before its end
pub put_front : (out : List ℕ) (at : ℕ) (bs : List ℕ) (n : ℕ) → n ≡ min (length bs) (length out - at) → overlaid out at (take n bs) ≡ overlaid out at bs
put_front out at bs n e =
    let front : List ℕ = take n bs in
    let l : length front ≡ n = length-take-le n bs (omega arith) in
    let none : overlaid (overlaid out at front) (at + length front) (drop n bs) ≡ overlaid out at front =
    elim (cases_lt n (length bs)) [
      | inl m ↦ put_past (overlaid out at front) (at + length front) (drop n bs) (omega (arith, l, put_length out at front))
      | inr m ↦ ap (overlaid (overlaid out at front) (at + length front)) (drop_all n bs m)
    ] in
    sym none ∙ put_append out at front (drop n bs) ∙ ap (overlaid out at) (take-append-drop n bs)

-- bytes one by one
pub put_next : (out : List ℕ) (at : ℕ) (bs : List ℕ) (i : ℕ) → i < length bs → set (overlaid out at (take i bs)) (at + i) (get_or bs i 0) ≡ overlaid out at (take (i + 1) bs)
put_next out at bs i l =
    let n : length (take i bs) ≡ i = length-take-le i bs (omega arith) in
    ap (λ k. set (overlaid out at (take i bs)) (at + k) (get_or bs i 0)) (sym n) ∙ put_append out at (take i bs) (get_or bs i 0 ∷ []) ∙ ap (overlaid out at) (sym (take_more bs i 0 l))

-- a place that stopped at one past the end is as good as the place after it
put_mostped : (out : List ℕ) (at most : ℕ) (bs : List ℕ) → length out ≤ most → overlaid out (min at most) bs ≡ overlaid out at bs
put_mostped out at most bs h =
    elim (cases_lt at most) [
      | inl l ↦ let e : min at most ≡ at = omega arith in rw e
      | inr l ↦ let e : min at most ≡ most = omega arith in rw (e, put_past out most bs h, put_past out at bs (omega arith))
    ]

-- one write after another is the write of both, where the place stopped between them too
pub put_then : (out mid last : List ℕ) (at next : ℕ) (xs ys : List ℕ) → length out < 2 ^ 64 → next ≡ min (at + length xs) (2 ^ 64 - 1) → mid ≡ overlaid out at xs → last ≡ overlaid mid next ys → last ≡ overlaid out at (xs ++ ys)
put_then out mid last at next xs ys short n m l =
    l ∙ ap (λ o. overlaid o next ys) m ∙ ap (λ k. overlaid (overlaid out at xs) k ys) n
    ∙ put_mostped (overlaid out at xs) (at + length xs) (2 ^ 64 - 1) ys (omega (arith, put_length out at xs, short)) ∙ put_append out at xs ys

-- one write after another
infixr 5 ◌then◌
pub ◌then◌ : {a b c : Pen} {xs ys : List ℕ} → Writes a xs b → Writes b ys c → Writes a (xs ++ ys) c
◌then◌ {a} {b} {c} {xs} {ys} p q =
    record {
      same_buffer = q.same_buffer ∙ p.same_buffer;
      place = let l = length-append xs ys in omega (arith, l, p.place, q.place);
      put = put_then a.out.now b.out.now c.out.now a.at b.at xs ys a.short p.place p.put q.put;
    }

-- the same bytes, said otherwise
pub bytes_are : {a b : Pen} {xs ys : List ℕ} → xs ≡ ys → Writes a xs b → Writes a ys b
bytes_are {a} {b} e p = subst (λ bs. Writes a bs b) e p

-- the items of a list one by one, each with its bytes
module _ {X Y : Type 0} (f : Y → List ℕ) (g : X → Y) where
  pub next_item : (xs : List X) (i : ℕ) (d : X) {x : X} → i < length xs → x ≡ get_or xs i d → {a b c : Pen} → Writes a (flat_map f (map g (take i xs))) b → Writes b (f (g x)) c → Writes a (flat_map f (map g (take (i + 1) xs))) c
  next_item xs i d {x} l e p q =
      bytes_are (flat_map_more f [] (map g (take i xs)) (g x) ∙ ap (flat_map f) (sym (map_push g (take i xs) x) ∙ ap (map g) (ap (λ y. take i xs ++ (y ∷ [])) e ∙ sym (take_more xs i d l)))) (p then q)

  pub all_items : (xs : List X) (i : ℕ) → length xs ≤ i → {a b : Pen} → Writes a (flat_map f (map g (take i xs))) b → Writes a (flat_map f (map g xs)) b
  all_items xs i l p = bytes_are (ap (λ ys. flat_map f (map g ys)) (take_all i xs l)) p

-- bytes one by one
pub next_byte : (bs : List ℕ) (i : ℕ) → i < length bs → {a b c : Pen} → Writes a (take i bs) b → Writes b (get_or bs i 0 ∷ []) c → Writes a (take (i + 1) bs) c
next_byte bs i l p q = bytes_are (sym (take_more bs i 0 l)) (p then q)

-- a buffer with room for all the bytes then begins with them, and goes on as it was
module _ (out bs : List ℕ) (room : length bs ≤ length out) where
  put_room : overlaid out 0 bs ≡ bs ++ drop (0 + length bs) out
  put_room = overlaid_is out 0 bs ∙ sets-eq bs out 0 (omega arith)

  pub put_all : take (length bs) (overlaid out 0 bs) ≡ bs
  put_all = rw put_room (take_at bs _ _ refl)

  pub put_rest : drop (length bs) (overlaid out 0 bs) ≡ drop (length bs) out
  put_rest = rw put_room (drop_at bs _ _ refl ∙ ap (λ k. drop k out) (zero-add (length bs)))
