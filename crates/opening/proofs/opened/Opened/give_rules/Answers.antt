use Rattle.std.proofs.Common.{map, take, sym, ◌∙◌, subst}
use Rattle.comparison.specs.Comparisons.{field_of, session}
use Rattle.equivalence.specs.Automata.{states}
use Rattle.opening.proofs.Elements.{holds_of, pushed, room}
use Rattle.opening.proofs.Steps.{rule_accepted, rule_more}
use Rattle.rules.specs.Rules.{rule_model}
use Rattle.session.specs.Calls.{Does, call_rule}
use Rattle.session.specs.Sessions.{side}
use Rattle.session.specs.Validity.{ValidRule}
use Rattle.side.specs.Numbers.{number}
use Rattle.opening.proofs.opened.Opened.give_rules.Goals as goal

pub unwrap-requires : goal.unwrap-requires
unwrap-requires g c =
    let i = c.loop-rule.rule-index in
    let xs = c.args.rules.now in
    let x = c.rule-item.result in
    let A = g.F.Field.model (field_of c.loop-rule.self.comparison) in
    let s = session c.args.self.now.comparison in
    let before = session c.loop-rule.self.comparison in
    let after = session c.rule.new.self in
    let M = side s.sides (number c.args.side) in
    let here = holds_of rule_model xs i x c.loop-rule-test.true c.rule-item.is _ c.requires.valid in
    let valid = subst (λ (z : g.row.F.Denot). ValidRule (g.F.Field.model z).size s.sides.ranks (states M) (rule_model x)) (sym c.loop-rule.invariant.field) here in
    let by_number = subst (λ n. Does A before (call_rule n x.symbol x.target x.weight c.items-children.result.now) c.rule.result after) c.into.ensures c.rule.ensures.does in
    let does = subst (λ cs. Does A before (call_rule (number c.args.side) x.symbol x.target x.weight cs) c.rule.result after) c.items-children.ensures.are by_number in
    rule_accepted A s before after c.rule.result c.args.side (rule_model x) (map rule_model (take i xs))
    c.loop-rule.invariant.holds
    c.args.self.now.is_open valid
    (room rule_model xs i x c.loop-rule-test.true M.rules 256 c.requires.room) does

pub loop-rule-preserved : goal.loop-rule-preserved
loop-rule-preserved g c =
    let i = c.loop-rule.rule-index in
    let xs = c.args.rules.now in
    let x = c.rule-item.result in
    let A = g.F.Field.model (field_of c.loop-rule.self.comparison) in
    let s = session c.args.self.now.comparison in
    let before = session c.loop-rule.self.comparison in
    let after = session c.rule.new.self in
    let by_number = subst (λ n. Does A before (call_rule n x.symbol x.target x.weight c.items-children.result.now) c.rule.result after) c.into.ensures c.rule.ensures.does in
    let does = subst (λ cs. Does A before (call_rule (number c.args.side) x.symbol x.target x.weight cs) c.rule.result after) c.items-children.ensures.are by_number in
    record {
      holds =
          rule_more A s before after c.rule.result c.args.side (rule_model x) (map rule_model (take i xs)) _
          c.loop-rule.invariant.holds c.unwrap.ensures does
          (pushed rule_model xs i x c.loop-rule-test.true c.rule-item.is);
      field = c.rule.ensures.field ∙ c.loop-rule.invariant.field;
    }
