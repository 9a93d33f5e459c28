-- The field of a valid record keeps the laws, so its elements fit 32 bits. Assumes nothing.
use Rattle.std.proofs.Common.{◌≡◌, ℕ, ◌^◌, true, List, [], ◌∷◌, ◌++◌, subst, ⊎_elim, arith}
use Rattle.std.proofs.lemmas.Bool.{cases_eq, false≢true}
use Rattle.field.specs.Algebra.{Algebra, Lawful}
use Rattle.prime.specs.Moduli.{admitted}
use Rattle.prime.specs.Inverses.{residue_field}
use Rattle.prime.specs.Primality.{admitted_prime, admitted_fits}
use Rattle.polynomials.proofs.Laws.{field}
use Rattle.extension.specs.Extension.{extension, Extends}
use Rattle.extension.proofs.Laws.{extension_lawful}
use Rattle.shapes.specs.Shapes.{kind_algebra, named}
use Rattle.shapes.specs.declared.shape.Kind.{Kind}
use Rattle.shapes.specs.declared.shape.Kind.TheVariants.{Residues, Bytes}
use Rattle.format.specs.Lines.{kind_fits}
use Rattle.format.specs.Records.{Record, tower, field_of, AllExtend, ValidRecord}

pub kind_lawful : (k : Kind) → named k ≡ true → Lawful (kind_algebra k)
kind_lawful (Residues p) h = residue_field p (admitted_prime p h) (admitted_fits p h)
kind_lawful Bytes h = field

pub tower_lawful : (F : Algebra) (ss : List (ℕ × ℕ)) → Lawful F → AllExtend F ss → Lawful (tower F ss)
tower_lawful F [] l h = l
tower_lawful F (s ∷ ss) l h =
    tower_lawful (extension F s.0 s.1) ss (extension_lawful F l s.0 s.1 h.0) h.1

pub field_lawful : (r : Record) → ValidRecord r → Lawful (field_of r)
field_lawful r v = tower_lawful (kind_algebra r.kind) r.steps (kind_lawful r.kind v.kind) v.steps

-- a step extends what the steps before it made
pub extends_middle :
    (F : Algebra) (front : List (ℕ × ℕ)) (s : ℕ × ℕ) (back : List (ℕ × ℕ))
    → AllExtend F (front ++ (s ∷ back))
    → Extends (tower F front) s.0 s.1
extends_middle F [] s back h = h.0
extends_middle F (x ∷ front) s back h = extends_middle (extension F x.0 x.1) front s back h.1

-- no modulus is 2 ^ 32 itself
pub named_fits : (k : Kind) → named k ≡ true → kind_fits k
named_fits (Residues p) h =
    ⊎_elim (λ (e : p ≡ 2 ^ 32). absurd (false≢true (subst (λ n. admitted n ≡ true) e h)))
    (λ (n : p ≡ 2 ^ 32 → ⊥). omega (arith, admitted_fits p h)) (cases_eq p (2 ^ 32))
named_fits Bytes h = tt
