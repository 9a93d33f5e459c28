-- What a chain that ends in `all` decides.
use Rattle.std.proofs.Common.{◌≡◌, ℕ, ◌<◌, Bool, true, false, List, [], ◌∷◌, length, Option, Decides, MatchBool, MatchOption, refl, arith}
use Rattle.std.specs.List.{AllByRecursion, AllWithin, FoldsTo, HoldsAt}
use Rattle.std.specs.Iterator.{YieldsThen}
use Rattle.std.specs.Fn.{Called}
use Rattle.std.proofs.ByRecursion.{All-get_or, all_from_every}
use Rattle.std.proofs.lemmas.Bool.{both_ways}
use Rattle.std.proofs.lemmas.Iterator.{YieldsList, cases_from_all}
use denote.Param.Members.{Mut}

decides_all : {X : Type 0} (P : X → Type 0) (xs : List X) (r : Bool) → MatchBool r (AllWithin P xs 0 (length xs)) ((k : ℕ) × (k < length xs) × HoldsAt (λ x. P x → ⊥) xs k) → Decides r (AllByRecursion P xs)
decides_all P xs true h = (λ _. all_from_every P xs h, λ _. refl)
decides_all P [] false h = absurd (omega arith)
decides_all P (x ∷ xs) false h =
    (λ t. absurd (both_ways false refl t), λ all. absurd (h.2 x (All-get_or P (x ∷ xs) h.0 x h.1 all)))

pub Decides-from_all :
    {S A B F : Type 0} {steps : S → Option A → S → Type 0} {v : A → B} {g : Mut F (A × Unit {0}) Bool} {s : S} {all : List B}
    (u : S) (f : F) (r : Bool) (P : B → Type 0)
    → (xs : List A) × (o : Option A) × (j : F) × YieldsThen steps s xs o u × FoldsTo (λ p x q. Called g p (x, tt) true q) f xs j × MatchOption o (r ≡ true) (λ x. (r ≡ false) × ((h : F) × Called g j (x, tt) false h))
    → YieldsList steps v s all
    → ((x : A) (q : F) → Called g f (x, tt) true q → (q ≡ f) × P (v x))
    → ((x : A) (q : F) → Called g f (x, tt) false q → P (v x) → ⊥)
    → Decides r (AllByRecursion P all)
Decides-from_all {v = v} {all = all} u f r P run chain good bad =
    decides_all P all r (cases_from_all u f r P (λ x. P x → ⊥) run chain good bad)
