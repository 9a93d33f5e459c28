use Rattle.std.proofs.Common.{◌≡◌, ℕ, ◌<◌, map}
use Rattle.std.specs.List.{fold}
use Rattle.entry_vectors.proofs.Valuation.value.Given as goal

abbrev pub invariant-loop-weight : goal.invariant-loop-weight
invariant-loop-weight g l =
    let A = g.F.Field.model l.self.field.now in
    record {
      terms : l.sum ≡ fold {A = ℕ × ℕ} (λ s p. A.sum (A.prod p.0 p.1) s) 0 (map (λ p. (p.0.now, p.1.now)) l.yielded);
      code : l.sum < A.size;
    }
