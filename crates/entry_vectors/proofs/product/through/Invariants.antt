use Rattle.std.proofs.Common.{◌≡◌, ℕ, ◌<◌, map}
use Rattle.std.specs.List.{fold}
use Rattle.field.specs.Algebra.{ops}
use Rattle.vectors.specs.Tables.{vectors_of}
use Rattle.entry_vectors.proofs.Products.{factor}
use Rattle.entry_vectors.proofs.product.through.Given as goal

abbrev pub invariant-loop-child : goal.invariant-loop-child
invariant-loop-child g l =
    let A = g.F.Field.model l.f in
    record {
      factors : l.product ≡ fold {A = ℕ × ℕ} (λ y p. A.prod (factor (ops A) (vectors_of l.vectors) p) y) 1 (map (λ p. (p.0.now, p.1.now)) l.yielded);
      code : l.product < A.size;
    }
