use Rattle.std.proofs.Common.{◌≡◌, ◌*◌, ◌%◌, ◌<◌}
use Rattle.prime.proofs.PrimeField.inv.Given as goal

-- m times a is x modulo p, and x is a residue that is not zero.
abbrev pub invariant-loop-x : goal.invariant-loop-x
invariant-loop-x l = let p = l.self.modulus in (0 < l.x) × (l.x < p) × (l.m < p) × ((l.m * l.a) % p ≡ l.x)

abbrev pub decreases-loop-x : goal.decreases-loop-x
decreases-loop-x l = l.x
