use Rattle.polynomials.proofs.Laws.{three_again}
use Rattle.gf256.proofs.cyclic_power.Goals as goal
use Rattle.gf256.proofs.cyclic_power.Goals.{then-n-lt255, else-n-lt255}

pub returns-clause-value : goal.returns-clause-value
returns-clause-value c =
    elim c.if-n-lt255.branch [
      | then-n-lt255 w ↦ cc (c.power.ensures, w.i-is)
      | else-n-lt255 w ↦ cc (c.power.ensures, w.i-is, three_again c.args.n w.if-n-lt255.false)
    ]
