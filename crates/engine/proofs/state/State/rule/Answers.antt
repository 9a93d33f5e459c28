use Rattle.std.proofs.Common.{refl}
use Rattle.engine.proofs.Calls.{does_rule, still}
use Rattle.engine.proofs.Same.{if_refused, put_back, same_state}
use Rattle.engine.specs.Open.{opened, sides}
use Rattle.session.specs.Calls.{call_rule}
use Rattle.side.specs.Numbers.{number}
use Rattle.engine.proofs.state.State.rule.Goals as goal

pub invariant_of-self : goal.invariant_of-self
invariant_of-self g c =
    let s = c.args.self.now in
    let a = c.args in
    let give = c.give_rule in
    let call = call_rule (number a.side) a.symbol a.target a.weight a.children.now in
    let does = does_rule (g.F.Field.model s.setting.field) s.setting s.automata a.symbol a.target a.weight a.children.now a.side give.result c.at_mut-m.result.now give.new.m c.at_mut-m.ensures.value give.ensures.does in
    record { valid = still g.F.Field.model s.setting.field _ (opened (sides s.setting s.automata)) _ call give.result refl s.valid does }

pub returns-clause-same : goal.returns-clause-same
returns-clause-same g c =
    let s = c.args.self.now in
    if_refused c.give_rule.result
    (λ e. same_state _ s refl (put_back s.automata c.args.side c.at_mut-m.result.now c.give_rule.new.m c.at_mut-m.ensures.value e))
    c.give_rule.ensures.same
