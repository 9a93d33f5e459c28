use Rattle.std.proofs.Common.{sym, ◌∙◌}
use Rattle.std.proofs.lemmas.Iterator.{YieldsList-from_zip}
use Rattle.std.proofs.lemmas.Iterator.Adapters.{YieldsList-from_rev_slice}
use Rattle.std.proofs.lemmas.Iterator.Consumers.{YieldsList-end}
use Rattle.field.specs.Algebra.{ops}
use Rattle.vectors.specs.Tables.{vectors_of}
use Rattle.entry_vectors.proofs.Products.{through_apart, through_gathered}
use Rattle.entry_vectors.proofs.product.through.Goals as goal

pub returns-then-children-states-clause-value : goal.returns-then-children-states-clause-value
returns-then-children-states-clause-value g c =
    let f = c.args.f.now in
    sym
    (through_apart (g.F.Field.model f) (g.met.F.Field.laws f) (vectors_of c.args.vectors.now) c.requires.codes _
    c.args.children.now c.args.states.now c.requires.children c.if-children-states.true)

pub returns-clause-value : goal.returns-clause-value
returns-clause-value g c =
    let cs = c.args.children.now in
    let ss = c.args.states.now in
    let end = YieldsList-end (YieldsList-from_zip (YieldsList-from_rev_slice cs cc) (YieldsList-from_rev_slice ss cc))
    c.loop-child.yielded _ c.loop-child.yielded_by _ c.next.new.self c.in-None.is c.next.ensures.steps in
    c.loop-child.invariant.factors
    ∙ through_gathered (ops (g.F.Field.model c.args.f.now)) (vectors_of c.args.vectors.now) _ cs ss _ c.requires.children c.if-children-states.false end.0
