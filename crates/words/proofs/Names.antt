-- Names: byte by byte, and as records.
use Rattle.std.proofs.Common.{◌≡◌, ℕ, ◌-◌, ◌<◌, ◌≤◌, true, false, List, [], ◌∷◌, ◌++◌, length, get_or, take, drop, replicate, Decides, sym, refl, ap, ◌∙◌, subst, arith, length-append, length-drop, take-append-drop}
use denote.Struct.Props.{props}
use mathlib.Core.HLevel.{is_prop→PathP}
use Rattle.std.proofs.Math.Bool.{and-true}
use Rattle.std.specs.List.{list_all, AllByRecursion}
use Rattle.std.proofs.ByRecursion.{All-get_or, All-from_get_or, Decides-by_and}
use Rattle.std.proofs.lemmas.Bool.{and_parts, or_left, le-leb, leb-true, both_ways}
use Rattle.std.proofs.lemmas.List.{length-take-le, take_at, drop_at, drop-replicate}
use Rattle.std.specs.Prelude.{nat_le}
use Rattle.words.specs.declared.name.Name.{Name}
use Rattle.words.specs.Spelled.{spelled}
use Rattle.words.specs.Words.{Lacks, small, inner, is_name}

all_inner : (bs : List ℕ) → Decides (list_all inner bs) (AllByRecursion (λ b. inner b ≡ true) bs)
all_inner = Decides-by_and inner (λ b. inner b ≡ true) (list_all inner) (λ b. (λ h. h, λ h. h)) refl (λ _ _. refl)

-- what a name looks like
pub record Named (bs : List ℕ) : Type 0 where
  pub some : 1 ≤ length bs
  pub short : length bs ≤ 8
  pub first : small (get_or bs 0 0) ≡ true
  pub rest : (i : ℕ) → i < length bs → inner (get_or bs i 0) ≡ true

pub named : (bs : List ℕ) → is_name bs ≡ true → Named bs
named [] h = absurd (both_ways false refl h)
named (b ∷ bs) h =
    let p = and_parts (small b) _ h in
    let q = and_parts (list_all inner bs) _ p.1 in
    let all : AllByRecursion (λ x. inner x ≡ true) (b ∷ bs) = (or_left (small b) _ p.0, (all_inner bs).0 q.0) in
    record {
      some = omega arith;
      short = omega (arith, leb-true _ _ q.1);
      first = p.0;
      rest = λ i less. All-get_or (λ x. inner x ≡ true) (b ∷ bs) i 0 less all;
    }

-- a byte that may not stand in a name does not
pub name_lacks : (b : ℕ) → inner b ≡ false → (bs : List ℕ) → is_name bs ≡ true → Lacks b bs
name_lacks b out bs h =
    All-from_get_or _ bs 0 (λ i less e. both_ways (inner b) out (subst (λ x. inner x ≡ true) e ((named bs h).rest i less)))

-- a small letter and at most seven bytes after it are a name where each of these may stand in one
pub name_is : (part rest : List ℕ) (b : ℕ) → part ≡ b ∷ rest → small b ≡ true → length rest ≤ 7 → list_all inner rest ≡ is_name part
name_is part rest b e first short =
    let t : nat_le (length rest) 7 ≡ true = le-leb (length rest) 7 short in
    rw (e, first, t) (sym (and-true (list_all inner rest)))

-- bs copied over the front of eight places, where a name keeps it
module _ (copy bs under : List ℕ) (same : copy ≡ bs) (name : is_name bs ≡ true) where
  pub padded_length : length under ≡ 8 → length (copy ++ drop (length bs) under) ≡ 8
  padded_length eight = rw same (simp (length-append, length-drop) (omega (arith, (named bs name).short)))

  pub padded_front : take (length bs) (copy ++ drop (length bs) under) ≡ bs
  padded_front = rw same (take_at bs _ _ refl)

  pub padded_name : is_name (take (length bs) (copy ++ drop (length bs) under)) ≡ true
  padded_name = rw padded_front name

  pub padded_rest : under ≡ replicate 8 0 → drop (length bs) (copy ++ drop (length bs) under) ≡ replicate (8 - length bs) 0
  padded_rest zeros = rw (same, zeros) (drop_at bs _ _ refl ∙ drop-replicate (length bs) 8 0)

same_name : (m n : Name) → m.bytes ≡ n.bytes → m.len ≡ n.len → m ≡ n
same_name m n e l j = record {
  bytes = e j;
  len = l j;
  width = is_prop→PathP (λ k. length (e k) ≡ 8) (λ k. hlevel props) m.width n.width j;
  short = is_prop→PathP (λ k. l k ≤ 8) (λ k. hlevel props) m.short n.short j;
  named = is_prop→PathP (λ k. is_name (take (l k) (e k)) ≡ true) (λ k. hlevel props) m.named n.named j;
  padded = is_prop→PathP (λ k. drop (l k) (e k) ≡ replicate (8 - l k) 0) (λ k. hlevel props) m.padded n.padded j;
}

module _ (n : Name) where
  pub spelled_length : length (spelled n) ≡ n.len
  spelled_length = length-take-le n.len n.bytes (omega arith)

-- names with the same bytes are the same record, so that their derived equality is that of their bytes
pub same_from_spelled : (m n : Name) → spelled m ≡ spelled n → m ≡ n
same_from_spelled m n e =
    let l : m.len ≡ n.len = sym (spelled_length m) ∙ ap length e ∙ spelled_length n in
    let p = take-append-drop m.len m.bytes in
    let q = take-append-drop n.len n.bytes in
    let rest : drop m.len m.bytes ≡ drop n.len n.bytes = m.padded ∙ ap (λ k. replicate (8 - k) 0) l ∙ sym n.padded in
    same_name m n (cc) l
