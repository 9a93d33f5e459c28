use Rattle.std.proofs.Common.{◌≡◌, ℕ, ◌^◌, ◌<◌, get_or, drop}
use Rattle.std.specs.Int.{IsInRange}
use Rattle.words.proofs.Numbers.{read}
use Rattle.words.proofs.number.Given as goal

abbrev pub invariant-loop-b : goal.invariant-loop-b
invariant-loop-b l = record {
  fits : l.n < 2 ^ 32;
  digital : (k : ℕ) → k < l.b-index → IsInRange 48 57 (get_or l.part k 0);
  value : read l.n (drop l.b-index l.part) ≡ read 0 l.part;
}
