use Rattle.std.proofs.Common.{refl}
use Rattle.engine.proofs.Same.{if_refused, put_back, same_state}
use Rattle.engine.proofs.state.State.set_final.Goals as goal

pub returns-clause-same : goal.returns-clause-same
returns-clause-same g c =
    let s = c.args.self.now in
    if_refused c.give_final.result
    (λ e. same_state _ s refl (put_back s.automata c.args.side c.at_mut.result.now c.give_final.new.m c.at_mut.ensures.value e))
    c.give_final.ensures.same
