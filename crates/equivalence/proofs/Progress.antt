-- What every exploration keeps true of its kept trees, in the order of its tries. Assumes nothing.
use Rattle.std.proofs.Common.{◌≡◌, ℕ, suc, ◌<◌, ◌≤◌, List, [], ◌∷◌, ◌++◌, length, ap, ◌∙◌, ⊎_elim, add-one, arith, length-append}
use Rattle.std.specs.List.{AllByRecursion}
use Rattle.std.proofs.lemmas.List.{length_push}
use Rattle.std.proofs.ByRecursion.{All-push, All-weaker}
use Rattle.std.proofs.lemmas.Bool.{cases_lt}
use Rattle.equivalence.specs.Trees.{Tree, Over, height}
use Rattle.equivalence.specs.Tries.{turns}
use Rattle.equivalence.specs.Exploration.{built, Left, next}
use Rattle.equivalence.proofs.Kept.{tall, Rising, tall_more, tall_last, named_width, named_over, named_high, rising_none, rising_push}
use Rattle.equivalence.proofs.Order.{Within, Placed, placed}

module _ (ranks : List ℕ) where
  -- Of n tries that led to the kept trees: there were so many tries, the kept trees are trees over the symbols, in rising
  -- order of height, and where no turn after the m-th was begun none is more than one higher than the m-th.
  pub record Grown (n : ℕ) (kept : List Tree) : Type 0 where
    pub made : n ≤ length (turns ranks (length kept))
    pub over : AllByRecursion (Over ranks) kept
    pub rising : Rising kept
    pub capped : (m : ℕ) → m ≤ length kept → n ≤ length (turns ranks m) → AllByRecursion (λ t. height t ≤ suc (tall kept m)) kept

  -- the next tree is over the symbols, and one higher than the tree of its turn
  pub record Next (n : ℕ) (kept : List Tree) : Type 0 where
    pub place : Placed ranks (length kept) n (next ranks n kept)
    pub over : Over ranks (built kept (next ranks n kept))
    pub high : height (built kept (next ranks n kept)) ≡ suc (tall kept place.at)

  pub next_grown : (n : ℕ) (kept : List Tree) → Grown n kept → Left ranks n kept → Next n kept
  next_grown n kept g l =
      let p = placed ranks (length kept) n (record { symbol = 0; row = [] }) l in
      let y = next ranks n kept in
      let within : Within (length kept) y.row = All-weaker _ _ (λ c h. (h.0, let m = p.at_most in omega arith)) y.row p.within in
      record {
        place = p;
        over =
            (p.declared, named_width kept (length kept) y.row within ∙ p.long, named_over ranks kept y.row g.over within);
        high = ap suc (named_high kept p.at y.row g.rising p.at_most p.within p.holds);
      }

  pub grown_none : Grown 0 []
  grown_none =
      record {
        made = omega arith;
        over = tt;
        rising = rising_none;
        capped = λ m l h. tt;
      }

  pub grown_same : (n : ℕ) (kept : List Tree) → Grown n kept → Left ranks n kept → Grown (suc n) kept
  grown_same n kept g l =
      record { made = l; over = g.over; rising = g.rising; capped = λ m h k. g.capped m h (omega arith) }

  turns_grow : (m : ℕ) → length (turns ranks m) ≤ length (turns ranks (suc m))
  turns_grow m = simp length-append (omega arith)

  -- none of the kept trees is higher than the next
  pub next_highest : (n : ℕ) (kept : List Tree) (g : Grown n kept) (x : Next n kept) → AllByRecursion (λ t. height t ≤ height (built kept (next ranks n kept))) kept
  next_highest n kept g x =
      let p = x.place in
      let b = p.before in
      All-weaker _ _ (λ t h. rw x.high h) kept (g.capped p.at p.at_most (omega arith))

  pub grown_kept :
      (n : ℕ) (kept : List Tree)
      → Grown n kept
      → Left ranks n kept
      → Grown (suc n) (kept ++ (built kept (next ranks n kept) ∷ []))
  grown_kept n kept g l =
      let x = next_grown n kept g l in
      let p = x.place in
      let t = built kept (next ranks n kept) in
      let after = kept ++ (t ∷ []) in
      let e : length after ≡ suc (length kept) = length_push kept t ∙ add-one _ in
      let none_higher = next_highest n kept g x in
      record {
        made = rw e (let s = turns_grow (length kept) in omega arith);
        over = All-push (Over ranks) kept _ g.over x.over;
        rising = rising_push kept t g.rising none_higher;
        capped =
            λ m h k.
            ⊎_elim
            (λ (early : m < suc (length kept)).
            let same = tall_more kept (t ∷ []) m (omega arith) in
            let turn : p.at ≤ m =
            ⊎_elim (λ (a : m < p.at). absurd (let c = p.after m a in omega arith)) (λ (a : p.at ≤ m). a) (cases_lt m p.at) in
            let up = g.rising p.at m turn (omega arith) in
            let hi = x.high in
            All-push _ kept t (All-weaker _ _ (λ u v. rw same v) kept (g.capped m (omega arith) (omega arith))) (omega arith))
            (λ (late : suc (length kept) ≤ m).
            let same : tall after m ≡ height t = ap (tall after) (let q : m ≡ suc (length kept) = omega arith in q) ∙ tall_last kept t in
            All-push _ kept t (All-weaker _ _ (λ u v. rw same (omega arith)) kept none_higher) (rw same (omega arith)))
            (cases_lt m (suc (length kept)));
      }
