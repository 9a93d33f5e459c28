use Rattle.std.proofs.Common.{sym, ap, ◌∙◌, lt_trans, mod-lt, arith}
use Rattle.field.specs.Algebra.{inverse}
use Rattle.prime.specs.Inverses.{turn, remainder_pos, no_inverse, inverse_found}
use Rattle.prime.specs.Primality.{admitted_prime}
use Rattle.prime.specs.Residues.{residues}
use Rattle.prime.proofs.PrimeField.inv.Goals as goal

pub returns-then-a-eq0-clause-value : goal.returns-then-a-eq0-clause-value
returns-then-a-eq0-clause-value c =
    let p = c.args.self.now.modulus in
    let none = no_inverse p (admitted_prime p c.args.self.now.listed) in
    sym (ap (inverse (residues p)) c.if-a-eq0.true ∙ none)

pub loop-x-preserved : goal.loop-x-preserved
loop-x-preserved c =
    let p = c.args.self.now.modulus in
    let prime = admitted_prime p c.args.self.now.listed in
    let l = c.loop-x in (
      remainder_pos p prime l.x l.invariant.0 (omega arith) l.invariant.1,
      lt_trans (mod-lt p l.invariant.0) l.invariant.1,
      c.mul-m.ensures.below,
      rw c.mul-m.ensures.value (turn p c.args.a l.m l.x l.invariant.0 l.invariant.1 l.invariant.3),
    )

pub returns-clause-value : goal.returns-clause-value
returns-clause-value c =
    let p = c.args.self.now.modulus in
    let prime = admitted_prime p c.args.self.now.listed in
    let l = c.loop-x in
    let one = l.invariant.3 ∙ c.loop-x-test.false in
    sym (inverse_found p prime c.args.a l.m c.requires l.invariant.2 one)
