-- The residues modulo p: the numbers below p, with sum, product and negative taken modulo p.
use Rattle.std.specs.Prelude.{ℕ, ◌+◌, ◌-◌, ◌*◌, ◌%◌}
use Rattle.field.specs.Algebra.{Algebra}

abbrev pub residues : ℕ → Algebra
residues p = record { size = p; sum = λ a b. (a + b) % p; prod = λ a b. (a * b) % p; opp = λ a. (p - a) % p }
