-- Kept trees and the rows of their numbers: heights, and what a row names. Assumes nothing.
use Rattle.std.proofs.Common.{◌≡◌, ℕ, zero, suc, ◌<◌, ◌≤◌, true, eqb, List, [], ◌∷◌, ◌++◌, length, get_or, refl, ap, ◌∙◌, ap₂, ⊎_elim, le_of_eq, add-one, arith}
use Rattle.std.specs.List.{AllByRecursion}
use Rattle.std.proofs.lemmas.List.{get_or_append_left, get_or_push, length_push}
use Rattle.std.proofs.ByRecursion.{All-get_or}
use Rattle.std.proofs.lemmas.Bool.{or_cases, eqb-true, false≢true, cases_lt}
use Rattle.equivalence.specs.Trees.{Tree, node, bare, more, Over, AllOver, width, height, highest}
use Rattle.equivalence.specs.Entries.{named}
use Rattle.equivalence.specs.Tries.{occurs}
use Rattle.equivalence.proofs.Order.{Within}

-- the height of the tree with the number c, and 0 for the number 0
abbrev pub tall : List Tree → ℕ → ℕ
tall kept zero = 0
tall kept (suc c) = height (get_or kept c (node 0 bare))

-- later trees are at least as high
abbrev pub Rising : List Tree → Type 0
Rising kept = (i j : ℕ) → i ≤ j → j ≤ length kept → tall kept i ≤ tall kept j

pub named_more : (kept later : List Tree) (row : List ℕ) → Within (length kept) row → named (kept ++ later) row ≡ named kept row
named_more kept later [] h = refl
named_more kept later (zero ∷ row) h = refl
named_more kept later (suc c ∷ row) h =
    ap₂ more (get_or_append_left kept later (node 0 bare) c h.0.1) (named_more kept later row h.1)

pub tall_more : (kept later : List Tree) (c : ℕ) → c ≤ length kept → tall (kept ++ later) c ≡ tall kept c
tall_more kept later zero h = refl
tall_more kept later (suc c) h = ap height (get_or_append_left kept later (node 0 bare) c h)

pub tall_last : (kept : List Tree) (t : Tree) → tall (kept ++ (t ∷ [])) (suc (length kept)) ≡ height t
tall_last kept t = ap height (get_or_push kept t (node 0 bare) (length kept) refl)

pub named_width : (kept : List Tree) (m : ℕ) (row : List ℕ) → Within m row → width (named kept row) ≡ length row
named_width kept m [] h = refl
named_width kept m (zero ∷ row) h = absurd (let l = h.0.0 in omega arith)
named_width kept m (suc c ∷ row) h = ap suc (named_width kept m row h.1)

pub named_over :
    (ranks : List ℕ) (kept : List Tree) (row : List ℕ) → AllByRecursion (Over ranks) kept → Within (length kept) row → AllOver ranks (named kept row)
named_over ranks kept [] o h = tt
named_over ranks kept (zero ∷ row) o h = tt
named_over ranks kept (suc c ∷ row) o h = (All-get_or (Over ranks) kept c (node 0 bare) h.0.1 o, named_over ranks kept row o h.1)

-- a row of numbers up to i names trees no higher than that of i, and where i occurs, one as high
pub named_highest :
    (kept : List Tree) (i : ℕ) (row : List ℕ) → Rising kept → i ≤ length kept → Within i row → highest (named kept row) ≤ tall kept i
named_highest kept i [] r l h = omega arith
named_highest kept i (zero ∷ row) r l h = omega arith
named_highest kept i (suc c ∷ row) r l h =
    let x = named_highest kept i row r l h.1 in let y = r (suc c) i h.0.1 l in omega arith

pub named_occurs :
    (kept : List Tree) (i m : ℕ) (row : List ℕ) → Within m row → occurs i row ≡ true → tall kept i ≤ highest (named kept row)
named_occurs kept i m [] h e = absurd (false≢true e)
named_occurs kept i m (zero ∷ row) h e = absurd (let l = h.0.0 in omega arith)
named_occurs kept i m (suc c ∷ row) h e =
    ⊎_elim
    (λ (t : eqb (suc c) i ≡ true). let s : tall kept (suc c) ≡ tall kept i = ap (tall kept) (eqb-true (suc c) i t) in omega arith)
    (λ (t : occurs i row ≡ true). let x = named_occurs kept i m row h.1 t in omega arith)
    (or_cases (eqb (suc c) i) (occurs i row) e)

pub named_high :
    (kept : List Tree) (i : ℕ) (row : List ℕ)
    → Rising kept
    → i ≤ length kept
    → Within i row
    → (1 ≤ i → occurs i row ≡ true)
    → highest (named kept row) ≡ tall kept i
named_high kept zero row r l h e = let x = named_highest kept 0 row r l h in omega arith
named_high kept (suc i) row r l h e =
    let x = named_highest kept (suc i) row r l h in
    let y = named_occurs kept (suc i) (suc i) row h (e (omega arith)) in omega arith

pub tall_below : (kept : List Tree) (h c : ℕ) → AllByRecursion (λ t. height t ≤ h) kept → c ≤ length kept → tall kept c ≤ h
tall_below kept h zero a l = omega arith
tall_below kept h (suc c) a l = All-get_or (λ t. height t ≤ h) kept c (node 0 bare) l a

pub rising_none : Rising []
rising_none zero j h l = omega arith
rising_none (suc i) j h l = absurd (omega arith)

pub rising_push : (kept : List Tree) (t : Tree) → Rising kept → AllByRecursion (λ u. height u ≤ height t) kept → Rising (kept ++ (t ∷ []))
rising_push kept t r a i j h l =
    let e : length (kept ++ (t ∷ [])) ≡ suc (length kept) = length_push kept t ∙ add-one _ in
    ⊎_elim
    (λ (m : j < suc (length kept)).
    let x = tall_more kept (t ∷ []) i (omega arith) in
    let y = tall_more kept (t ∷ []) j (omega arith) in let z = r i j h (omega arith) in omega arith)
    (λ (m : suc (length kept) ≤ j).
    let last : j ≡ suc (length kept) = omega arith in
    let y : tall (kept ++ (t ∷ [])) j ≡ height t = ap (tall (kept ++ (t ∷ []))) last ∙ tall_last kept t in
    ⊎_elim
    (λ (k : i < suc (length kept)).
    let x = tall_more kept (t ∷ []) i (omega arith) in
    let z = tall_below kept (height t) i a (omega arith) in omega arith)
    (λ (k : suc (length kept) ≤ i). let s : i ≡ j = omega arith in le_of_eq (ap (tall (kept ++ (t ∷ []))) s))
    (cases_lt i (suc (length kept))))
    (cases_lt j (suc (length kept)))
