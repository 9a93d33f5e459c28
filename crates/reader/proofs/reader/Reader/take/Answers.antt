use Rattle.std.proofs.Common.{refl, ap, ◌∙◌}
use Rattle.std.proofs.lemmas.Result.{err_from_is_err_and}
use Rattle.format.specs.Lines.{extends_by, declares_symbol}
use Rattle.format.specs.Reading as reading
use Rattle.lines.specs.Recognized.{parted}
use Rattle.places.specs.Places.{place_of}
use Rattle.reader.proofs.Places.{took, took_state, took_rule}
use Rattle.reader.proofs.reader.Reader.take.Goals as goal

pub invariant_of-self-in-Break-1 : goal.invariant_of-self-in-Break-1
invariant_of-self-in-Break-1 c =
    record { unextended = λ e. ap (λ d. d.steps) (c.in_err-name_field-in-Field.ensures reading.nowhere).1 ∙ c.args.self.now.unextended e }

pub returns-in_err-name_field-in-Field : goal.returns-in_err-name_field-in-Field
returns-in_err-name_field-in-Field c =
    let p = err_from_is_err_and c.from_residual.result c.from_residual.ensures.1 in
    rw (p.1, p.2, c.in-Field.is) (c.in_err-name_field-in-Field.ensures (place_of c.args.self.now.place)).0

pub returns-in_ok-name_field-in-Field : goal.returns-in_ok-name_field-in-Field
returns-in_ok-name_field-in-Field c =
    rw c.in-Field.is (c.in_ok-name_field-in-Field.ensures (place_of c.args.self.now.place))

pub returns-in-Step : goal.returns-in-Step
returns-in-Step c =
    rw c.in-Step.is
    (took c.args.self.now.draft c.extend_by.new.self (place_of c.args.self.now.place) c.extend_by.result
    (extends_by c.in-Step.u c.in-Step.v) refl c.extend_by.ensures)

pub returns-in-Symbol : goal.returns-in-Symbol
returns-in-Symbol c =
    rw c.in-Symbol.is
    (took c.args.self.now.draft c.declare_symbol.new.self (place_of c.args.self.now.place) c.declare_symbol.result
    (declares_symbol c.in-Symbol.name.now c.in-Symbol.rank) refl c.declare_symbol.ensures)

pub returns-in-State : goal.returns-in-State
returns-in-State c =
    rw c.in-State.is
    (took_state c.args.self.now.draft c.declare_state.new.self (place_of c.args.self.now.place) c.declare_state.result
    c.in-State.side c.in-State.name.now c.in-State.weight c.declare_state.ensures)

pub returns-in-Rule : goal.returns-in-Rule
returns-in-Rule c =
    let cs = parted c.in-Rule.names.now in
    rw c.in-Rule.is
    (took_rule c.args.self.now.draft c.give_rule.new.self (place_of c.args.self.now.place) c.give_rule.result
    c.in-Rule.side c.in-Rule.symbol.now c.in-Rule.target.now c.in-Rule.weight cs
    (c.give_rule.ensures cs c.children-children.ensures))
