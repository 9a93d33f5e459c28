-- What is known of a pair by its type.
use Rattle.std.specs.Prelude.{◌≡◌, ℕ, ◌<◌, ◌≤◌}
use Rattle.std.proofs.Props.{props}
use mathlib.Core.HLevel.{is_prop→PathP}
use Rattle.field.specs.declared.Field.{Ghosts}
use Rattle.extension.specs.Extension.{Extends, Root}
use Rattle.quadratic.specs.declared.Pair.{Pair}

-- its coefficients extend its base
pub extends : {X : Type 0} {g : Ghosts X} (p : Pair X g) → Extends (g.model p.base) p.u p.v
extends p = record { small = p.small; u_below = p.u_below; v_below = p.v_below; no_root = p.no_root }

-- it is told by its base and its coefficients
pub same_pair : {X : Type 0} {g : Ghosts X} (p q : Pair X g) → p.base ≡ q.base → p.u ≡ q.u → p.v ≡ q.v → p ≡ q
same_pair {g = g} p q b u v i =
    record {
      base = b i;
      u = u i;
      v = v i;
      small = is_prop→PathP (λ k. (g.model (b k)).size ≤ 65536) (λ k. hlevel props) p.small q.small i;
      u_below = is_prop→PathP (λ k. u k < (g.model (b k)).size) (λ k. hlevel props) p.u_below q.u_below i;
      v_below = is_prop→PathP (λ k. v k < (g.model (b k)).size) (λ k. hlevel props) p.v_below q.v_below i;
      no_root = is_prop→PathP (λ k. (x : ℕ) → x < (g.model (b k)).size → Root (g.model (b k)) (u k) (v k) x → ⊥) (λ k. hlevel props) p.no_root q.no_root i;
    }
