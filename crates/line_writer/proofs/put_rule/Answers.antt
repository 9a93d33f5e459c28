use Rattle.std.proofs.Common.{◌∷◌, ◌++◌, map, decimal, sym, ap, ◌∙◌}
use mathlib.Core.List.{map-map}
use Rattle.std.specs.List.{flat_map}
use Rattle.rules.specs.Rules.{rule_model}
use Rattle.tables.specs.Tables.{state_of, symbol_of}
use Rattle.format.specs.Records.{state_names, symbol_names}
use Rattle.words.proofs.Puts.{◌then◌, bytes_are}
use Rattle.line_writer.specs.Writing.{after_space, named}
use Rattle.line_writer.proofs.Writes.{rest, line_is, rest_is}
use Rattle.line_writer.proofs.put_rule.Goals as goal

pub returns-clause-writes : goal.returns-clause-writes
returns-clause-writes c =
    let u = rule_model c.args.rule.now in
    let symbols = sym (map-map (λ s. s.name) symbol_of c.args.symbols.now) in
    let states = sym (map-map (λ s. s.name) state_of c.args.states.now) in
    let name = named (state_names (map state_of c.args.states.now)) in
    let children = map name u.children in
    let fields = named (symbol_names (map symbol_of c.args.symbols.now)) u.symbol ∷ name u.target ∷ decimal u.weight ∷ children in
    bytes_are (ap (λ t. t ++ rest fields) c.letter_of.ensures ∙ line_is _ fields)
    (c.byte.ensures
    then bytes_are (ap (λ ns. after_space (named ns u.symbol)) symbols) c.put_name.ensures.writes
    then bytes_are (ap (λ ns. after_space (named ns u.target)) states) c.put_name-2.ensures.writes
    then c.byte-2.ensures
    then c.number.ensures.writes
    then bytes_are (rest_is children)
    (bytes_are (ap (λ ns. flat_map after_space (map (named ns) c.items.result.now)) states ∙ ap (λ ks. flat_map after_space (map name ks)) c.items.ensures.are) c.put_names.ensures.writes
    then c.byte-3.ensures))
