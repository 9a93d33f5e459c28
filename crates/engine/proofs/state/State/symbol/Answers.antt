use Rattle.std.proofs.Common.{refl}
use Rattle.engine.proofs.Calls.{does_symbol, still}
use Rattle.engine.proofs.Same.{if_refused, same_state}
use Rattle.engine.specs.Open.{opened, sides}
use Rattle.session.specs.Calls.{call_symbol}
use Rattle.engine.proofs.state.State.symbol.Goals as goal

pub invariant_of-self : goal.invariant_of-self
invariant_of-self g c =
    let s = c.args.self.now in
    let k = c.args.rank in
    let add = c.add_symbol in
    let does = does_symbol (g.F.Field.model s.setting.field) (sides s.setting s.automata) k _ add.result add.ensures.does in
    record { valid = still g.F.Field.model s.setting.field _ (opened (sides s.setting s.automata)) _ (call_symbol k) add.result add.ensures.field s.valid does }

pub returns-clause-same : goal.returns-clause-same
returns-clause-same g c =
    if_refused c.add_symbol.result (λ e. same_state _ c.args.self.now e refl) c.add_symbol.ensures.same
