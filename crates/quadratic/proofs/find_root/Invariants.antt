use Rattle.std.proofs.Common.{ℕ, ◌<◌}
use Rattle.extension.specs.Extension.{Root}
use Rattle.quadratic.proofs.find_root.Given as goal

-- none of the elements tried is a root
abbrev pub invariant-loop-x : goal.invariant-loop-x
invariant-loop-x g l = (y : ℕ) → y < l.x → Root (g.F.Field.model l.f) l.u l.v y → ⊥
