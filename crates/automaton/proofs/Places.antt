-- The layout of an entry by its two parts, and of a list by its entries.
use Rattle.std.proofs.Common.{◌≡◌, ℕ, suc, ◌≤◌, ◌==◌, Bool, true, false, Decides, List, [], ◌∷◌, map, length, take, drop, sym, subst, add-one, arith}
use lib.ListN.{length-map}
use Rattle.std.specs.List.{AllByRecursion, enumerate_from}
use Rattle.std.proofs.lemmas.Bool.{both_ways}
use Rattle.equivalence.specs.Trees.{Declared, rank}
use Rattle.equivalence.specs.Entries as entries
use Rattle.equivalence.specs.Entries.{LaidOut, LaidOutFrom, WellFormed}
use Rattle.automaton.specs.declared.Entry.{Entry}
use Rattle.automaton.specs.Tables.{entry_of}

-- An entry whose first children, as many as the rank, and whose others were each looked at.
module _ (ranks : List ℕ) (n : ℕ) (e : entries.Entry) (three : length e.children ≡ 3) (declared : Declared ranks e.symbol) (r : Bool)
    (named : Decides r (AllByRecursion (λ c. (1 ≤ c) × (c ≤ n)) (take (rank ranks e.symbol) e.children))) where
  pub laid_from_parts : (s : Bool) → r ≡ true → Decides s (AllByRecursion (λ c. c ≡ 0) (drop (rank ranks e.symbol) e.children)) → Decides s (LaidOut ranks n e)
  laid_from_parts s is rest = (
    λ t. record { declared = declared; three = three; named = named.0 is; rest = rest.0 t },
    λ h. rest.1 h.rest,
  )

  pub unlaid_from_parts : r ≡ false → Decides r (LaidOut ranks n e)
  unlaid_from_parts is = (λ t. absurd (both_ways r is t), λ h. named.1 h.named)

-- The entries of a list, each with the number of those before it.
module _ (ranks : List ℕ) where
  abbrev pub LaidAt : ℕ × Entry → Type 0
  LaidAt p = LaidOut ranks p.0 (entry_of p.1)

  laid_each : (n : ℕ) (xs : List Entry) → AllByRecursion LaidAt (enumerate_from n xs) → LaidOutFrom ranks n (map entry_of xs)
  laid_each n [] h = tt
  laid_each n (x ∷ xs) h =
      (h.0, laid_each (suc n) xs (subst (λ m. AllByRecursion LaidAt (enumerate_from m xs)) (add-one n) h.1))

  each_laid : (n : ℕ) (xs : List Entry) → LaidOutFrom ranks n (map entry_of xs) → AllByRecursion LaidAt (enumerate_from n xs)
  each_laid n [] h = tt
  each_laid n (x ∷ xs) h =
      (h.0, subst (λ m. AllByRecursion LaidAt (enumerate_from m xs)) (sym (add-one n)) (each_laid (suc n) xs h.1))

  pub well_formed_from_each : (xs : List Entry) (r : Bool) → 1 ≤ length xs → length xs ≤ 64 → Decides r (AllByRecursion LaidAt (enumerate_from 0 xs)) → Decides r (WellFormed ranks (map entry_of xs) × (length xs ≤ 64))
  well_formed_from_each xs r some few h =
      let l = length-map xs entry_of in (
        λ t. (record { some = omega arith; entries = laid_each 0 xs (h.0 t) }, few),
        λ w. h.1 (each_laid 0 xs w.0.entries),
      )

pub some_entry : (xs : List Entry) (b : Bool) → b ≡ (length xs == 0) → b ≡ false → 1 ≤ length xs
some_entry [] b is off = absurd (both_ways b off is)
some_entry (x ∷ xs) b is off = omega arith
