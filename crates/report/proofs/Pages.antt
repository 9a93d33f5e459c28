-- A text written into a buffer of its length fills it. Assumes nothing.
use Rattle.std.proofs.Common.{◌≡◌, ℕ, ◌≤◌, List, ◌++◌, length, take, Ok, Err, Result, sym, ap, ◌∙◌, arith, MatchResult}
use lib.Seq.{take-append-le}
use Rattle.refusals.specs.declared.Refusal.{Refusal}
use Rattle.refusals.specs.declared.Refusal.TheVariants.{BufferTooShort}
use Rattle.writer.specs.Declared.{Holds, TooShort}

pub filled :
    (text before after rest : List ℕ) (r : Result ℕ Refusal) (n : ℕ)
    → n ≡ length text
    → length before ≡ n
    → length after ≡ n
    → MatchResult r (Holds text before after) (λ e. (e ≡ BufferTooShort) × TooShort text before after (length text))
    → take n (after ++ rest) ≡ text
filled text before after rest (Ok m) n e b a h =
    let z : m ≡ n = omega (arith, h.long) in
    let l : n ≤ length after = omega arith in
    take-append-le n after rest l ∙ ap (λ k. take k after) (sym z) ∙ h.front
filled text before after rest (Err x) n e b a h = absurd (omega (arith, h.1.short))
