use Rattle.shapes.proofs.arithmetic.ShapeField.is_same.Goals as goal

pub returns-in-PrimeTower-PrimeTower : goal.returns-in-PrimeTower-PrimeTower
returns-in-PrimeTower-PrimeTower c t =
    let at = c.in-PrimeTower-PrimeTower in
    rw (at.is-0, at.is-1) (c.is_same-in-PrimeTower-PrimeTower.ensures t)

pub returns-in-ByteTower-ByteTower : goal.returns-in-ByteTower-ByteTower
returns-in-ByteTower-ByteTower c t =
    let at = c.in-ByteTower-ByteTower in
    rw (at.is-0, at.is-1) (c.is_same-in-ByteTower-ByteTower.ensures t)
