-- The quadratic extension of a field by a root ω of X² − uX − v: its elements are a + bω, with ω² = uω + v.
use Rattle.std.specs.Prelude.{◌≡◌, ℕ, ◌+◌, ◌*◌, ◌/◌, ◌%◌, ◌<◌, ◌≤◌, Bool, not, ◌&&◌, is_some, Some, None, Option, nat_eq, nat_le, nat_lt}
use Rattle.field.specs.Ops.{Ops}
use Rattle.field.specs.Algebra.{Algebra, ops, first, inverse}

-- a + bω is the pair of a and b
abbrev pub pairs : {K : Type 0} → Ops K → K → K → Ops (K × K)
pairs o u v =
    record {
      nil = (o.nil, o.nil);
      unit = (o.unit, o.nil);
      sum = λ x y. (o.sum x.0 y.0, o.sum x.1 y.1);
      prod =
          λ x y. (
            o.sum (o.prod x.0 y.0) (o.prod (o.prod x.1 y.1) v),
            o.sum (o.sum (o.prod x.0 y.1) (o.prod x.1 y.0)) (o.prod (o.prod x.1 y.1) u),
          );
      opp = λ x. (o.opp x.0, o.opp x.1);
    }

-- a² + abu − b²v, the product of a + bω and its conjugate a + bu − bω
abbrev pub norm : {K : Type 0} → Ops K → K → K → K × K → K
norm o u v x =
    o.sum (o.sum (o.prod x.0 x.0) (o.prod (o.prod x.0 x.1) u)) (o.opp (o.prod (o.prod x.1 x.1) v))

-- The code of a + bω over a base of q elements is a + q·b.
abbrev pub encode : ℕ → ℕ × ℕ → ℕ
encode q x = x.0 + q * x.1

abbrev pub decode : ℕ → ℕ → ℕ × ℕ
decode q n = (n % q, n / q)

abbrev pub extension : Algebra → ℕ → ℕ → Algebra
extension B u v =
    let q = B.size in
    let o = pairs (ops B) u v in
    record {
      size = q * q;
      sum = λ x y. encode q (o.sum (decode q x) (decode q y));
      prod = λ x y. encode q (o.prod (decode q x) (decode q y));
      opp = λ x. encode q (o.opp (decode q x));
    }

-- The inverse of a + bω is its conjugate a + bu − bω times the inverse i of its norm, if there is one.
abbrev pub conjugate_product : Algebra → ℕ → ℕ × ℕ → ℕ → ℕ
conjugate_product B u x i = encode B.size (B.prod (B.sum x.0 (B.prod x.1 u)) i, B.prod (B.opp x.1) i)

abbrev pub divided : Algebra → ℕ → ℕ × ℕ → Option ℕ → Option ℕ
divided B u x None = None
divided B u x (Some i) = Some (conjugate_product B u x i)

abbrev pub by_norm : Algebra → ℕ → ℕ → ℕ → Option ℕ
by_norm B u v n =
    let x = decode B.size n in
    divided B u x (inverse B (norm (ops B) u v x))

-- x is a root of X² − uX − v
abbrev pub Root : Algebra → ℕ → ℕ → ℕ → Type 0
Root B u v x = B.prod x x ≡ B.sum (B.prod u x) v

-- What a test of every element finds: that there is no root, or the least code of one.
abbrev pub LeastRoot : Algebra → ℕ → ℕ → Option ℕ → Type 0
LeastRoot B u v None = (x : ℕ) → x < B.size → Root B u v x → ⊥
LeastRoot B u v (Some x) = (x < B.size) × Root B u v x × ((y : ℕ) → y < x → Root B u v y → ⊥)

-- What an extension by u and v asks of its base.
pub record Extends (B : Algebra) (u v : ℕ) : Type 0 where
  pub small : B.size ≤ 65536
  pub u_below : u < B.size
  pub v_below : v < B.size
  pub no_root : (x : ℕ) → x < B.size → Root B u v x → ⊥

-- The same as a test, by trying every element of the base.
unfoldable pub extendable : Algebra → ℕ → ℕ → Bool
extendable B u v =
    nat_le B.size 65536
    && (nat_lt u B.size && (nat_lt v B.size && not (is_some (first (λ x. nat_eq (B.prod x x) (B.sum (B.prod u x) v)) B.size))))

-- A value that extends its base: the base is a field, and u and v suit it.
pub record Valid (P : Type 0) (B : Algebra) (u v : ℕ) : Type 0 where
  pub base : P
  pub extends : Extends B u v
