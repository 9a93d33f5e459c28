use Rattle.std.proofs.Common.{◌∙◌, ap, ap₂, arith, length, sym, subst, subst₂, take}
use Rattle.std.specs.List.{AllByRecursion}
use Rattle.std.proofs.lemmas.Iterator.Adapters.{YieldsList-from_rev_slice}
use Rattle.std.proofs.lemmas.Iterator.Consumers.{YieldsList-turn, YieldsList-end}
use Rattle.automaton.specs.Tables.{automaton_of, entry_of}
use Rattle.equivalence.specs.Automata.{SoundRule, states}
use Rattle.equivalence.specs.Valuing.{through}
use Rattle.field.specs.Algebra.{ops}
use Rattle.rules.specs.Rules.{rule_model}
use Rattle.vectors.specs.Tables.{vectors_of}
use Rattle.entry_vectors.specs.Combining.{Among}
use Rattle.entry_vectors.proofs.Backwards.{all_at, all_reverse, all_unmap}
use Rattle.entry_vectors.proofs.Products.{all_named, through_named}
use Rattle.entry_vectors.proofs.Sums.{gathered_back, led_is, led_more}
use Rattle.entry_vectors.proofs.entry.entry_vector.Goals as goal
use Rattle.entry_vectors.proofs.entry.entry_vector.Goals.{In-Some}
use Rattle.entry_vectors.proofs.entry.entry_vector.Given.{Over}

-- each rule of the automaton is sound
sound_rule : (g : Over) (c : In-Some g) → SoundRule (g.F.Field.model c.args.f.now).size (states (automaton_of c.args.m.now)) (rule_model c.in-Some.rule.now)
sound_rule g c =
    let rs = c.rules.result.now in
    let fits = SoundRule (g.F.Field.model c.args.f.now).size (states (automaton_of c.args.m.now)) in
    let turn = YieldsList-turn (YieldsList-from_rev_slice rs cc) c.loop-rule.yielded _ c.loop-rule.yielded_by _ _ c.in-Some.rule c.in-Some.is c.next.ensures.steps in
    let all = all_unmap fits rule_model rs (subst (AllByRecursion fits) (sym c.rules.ensures.holds) c.requires.sound.rules) in
    all_at (λ r. fits (rule_model r)) _ _ c.in-Some.rule.now (all_reverse (λ r. fits (rule_model r)) rs all) turn

pub through-product-requires : goal.through-product-requires
through-product-requires g c =
    let m = length (vectors_of c.args.earlier.now) in
    record {
      codes = c.requires.codes;
      children = subst (Among m) (sym c.children-children.ensures) (all_named m c.args.e.now.children c.requires.earlier);
      states = subst₂ Among (sym c.requires.wide) (sym c.items.ensures.are) (sound_rule g (goal.at.through-product-requires g c).In-Some).children;
    }

pub mul-x-requires : goal.mul-x-requires
mul-x-requires g c = ((sound_rule g (goal.at.mul-x-requires g c).In-Some).weight, c.through-product.ensures.below)

pub loop-rule-preserved-then-rule-e : goal.loop-rule-preserved-then-rule-e
loop-rule-preserved-then-rule-e g c =
    let o = ops (g.F.Field.model c.args.f.now) in
    let vs = vectors_of c.args.earlier.now in
    let e = entry_of c.args.e.now in
    let r = rule_model c.in-Some.rule.now in
    let through_is = c.through-product.ensures.value ∙ ap₂ (through o vs) c.children-children.ensures c.items.ensures.are ∙ through_named o vs e.children r.children in
    let led = led_is o vs e r c.loop-rule.vector _ _ _ c.if-rule-e.true through_is c.mul-x.ensures.value c.add_at.ensures.value in
    record {
      sums = led_more o vs e rule_model (λ x. x.now) c.loop-rule.yielded c.in-Some.rule _ c.loop-rule.vector _ c.loop-rule.invariant.sums led;
      codes = c.add_at.ensures.below;
      long = omega (arith, c.add_at.auto.vector, c.loop-rule.invariant.long);
    }

pub returns-clause-value : goal.returns-clause-value
returns-clause-value g c =
    let rs = c.rules.result.now in
    let M = automaton_of c.args.m.now in
    let end = YieldsList-end (YieldsList-from_rev_slice rs cc) c.loop-rule.yielded _ c.loop-rule.yielded_by _ _ c.in-None.is c.next.ensures.steps in
    ap (take (states M)) c.loop-rule.invariant.sums
    ∙ gathered_back (ops (g.F.Field.model c.args.f.now)) (vectors_of c.args.earlier.now) (entry_of c.args.e.now) rule_model rs _ M (omega (arith, c.requires.wide, c.args.earlier.now.narrow)) c.rules.ensures.holds end.0
