use Rattle.std.proofs.Common.{◌≡◌, ◌+◌, ◌≤◌, length, ap, ◌∙◌, arith}
use Rattle.comparison.specs.Comparisons.{session}
use Rattle.field.specs.Algebra.{Algebra}
use Rattle.session.specs.Sessions.{Session}
use Rattle.tables.specs.Tables.{state_of, symbol_of}
use Rattle.text.specs.Exchange.{declared}
use Rattle.opening.specs.Opening.{automaton_of}
use Rattle.opening.proofs.Standing.{a_given, automaton_is, b_given, ready_side, same_length, with_ranks}
use Rattle.opening.proofs.Records.{ready}
use Rattle.opening.proofs.opening.open.Goals as goal

pub give_symbols-requires : goal.give_symbols-requires
give_symbols-requires g c =
    let few = (ready c.args.source.now).few in
    let none : length (session c.begin.result).sides.ranks ≡ 0 =
    ap (λ (s : Session). length s.sides.ranks) c.begin.ensures.holds in
    let many = same_length symbol_of c.symbols.result.now _ c.symbols.ensures in
    let fits : length (session c.begin.result).sides.ranks + length c.symbols.result.now ≤ 12 =
    omega (arith, none, many, few) in
    record { room = fits }

pub give_side-requires : goal.give_side-requires
give_side-requires g c =
    let d = declared c.args.source.now in
    let part = (ready c.args.source.now).a in
    let s = session c.give_symbols.new.self.comparison in
    let is = with_ranks d _ _ _ s c.symbols.result.now c.begin.ensures.holds c.counts_of.ensures.a c.counts_of.ensures.b c.give_symbols.ensures.holds c.symbols.ensures in
    let over = c.give_symbols.ensures.field ∙ c.begin.ensures.field in
    let size = ap (λ z. (g.F.Field.model z).size) over ∙ ap (λ (A : Algebra). A.size) c.requires in
    let M = automaton_of c.states.result.now c.rules.result.now in
    let few : length c.states.result.now ≤ 12 =
    omega (arith, same_length state_of c.states.result.now _ c.states.ensures, part.few) in
    let v = ready_side _ _ 0 s d.symbols d.a M part size (ap (λ (z : Session). z.sides.ranks) is) (ap (λ (z : Session). z.sides.a) is) (automaton_is d.a c.states.result.now c.rules.result.now c.states.ensures c.rules.ensures) in
    record { bare = v.bare; few = few; valid = v.valid }

pub give_side-requires-2 : goal.give_side-requires-2
give_side-requires-2 g c =
    let d = declared c.args.source.now in
    let part = (ready c.args.source.now).b in
    let s = session c.give_side.new.self.comparison in
    let before = with_ranks d _ _ _ _ c.symbols.result.now c.begin.ensures.holds c.counts_of.ensures.a c.counts_of.ensures.b c.give_symbols.ensures.holds c.symbols.ensures in
    let is = a_given _ s _ _ _ _ _ before (automaton_is d.a c.states.result.now c.rules.result.now c.states.ensures c.rules.ensures) c.give_side.ensures.holds in
    let over = c.give_side.ensures.field ∙ (c.give_symbols.ensures.field ∙ c.begin.ensures.field) in
    let size = ap (λ z. (g.F.Field.model z).size) over ∙ ap (λ (A : Algebra). A.size) c.requires in
    let M = automaton_of c.states-2.result.now c.rules-2.result.now in
    let few : length c.states-2.result.now ≤ 12 =
    omega (arith, same_length state_of c.states-2.result.now _ c.states-2.ensures, part.few) in
    let v = ready_side _ _ 1 s d.symbols d.b M part size (ap (λ (z : Session). z.sides.ranks) is) (ap (λ (z : Session). z.sides.b) is) (automaton_is d.b c.states-2.result.now c.rules-2.result.now c.states-2.ensures c.rules-2.ensures) in
    record { bare = v.bare; few = few; valid = v.valid }

pub returns : goal.returns
returns g c =
    let d = declared c.args.source.now in
    let first = with_ranks d _ _ _ _ c.symbols.result.now c.begin.ensures.holds c.counts_of.ensures.a c.counts_of.ensures.b c.give_symbols.ensures.holds c.symbols.ensures in
    let second = a_given _ _ _ _ _ _ _ first (automaton_is d.a c.states.result.now c.rules.result.now c.states.ensures c.rules.ensures) c.give_side.ensures.holds in
    record {
      holds =
          b_given _ _ _ _ _ _ _ second
          (automaton_is d.b c.states-2.result.now c.rules-2.result.now c.states-2.ensures c.rules-2.ensures)
          c.give_side-2.ensures.holds;
      field =
          c.give_side-2.ensures.field
          ∙ (c.give_side.ensures.field ∙ (c.give_symbols.ensures.field ∙ c.begin.ensures.field));
    }
