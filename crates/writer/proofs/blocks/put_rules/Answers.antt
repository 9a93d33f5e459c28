use Rattle.std.proofs.Common.{map, ap, ◌∙◌, arith}
use Rattle.drafts.specs.Drafts.{record_of, rules_of, states_of}
use Rattle.format.specs.Lines.{text_of_lines}
use Rattle.format.specs.Records.{part}
use Rattle.lines.specs.Recognized.{side_of}
use Rattle.rules.specs.Rules.{rule_model}
use Rattle.tables.specs.Tables.{state_of, symbol_of, symbols_of}
use Rattle.words.proofs.Puts.{bytes_are, next_item, all_items}
use Rattle.line_writer.specs.Writing.{ended, rule_by}
use Rattle.writer.proofs.Texts.{lines_are, part_is}
use Rattle.writer.proofs.blocks.put_rules.Goals as goal

pub loop-rule-preserved : goal.loop-rule-preserved
loop-rule-preserved c =
    let d = side_of c.args.side in
    let ss = symbols_of c.args.d.now.symbols in
    let ts = states_of c.part-part.result.now in
    let u = rule_model c.rule-item.result in
    next_item ended (λ r. rule_by d ss ts (rule_model r)) _ c.loop-rule.rule-index _ c.loop-rule-test.true c.rule-item.is c.loop-rule.invariant
    (bytes_are (ap (λ xs. ended (rule_by d (map symbol_of xs) (map state_of c.states.result.now) u)) c.symbols.ensures.are ∙ ap (λ xs. ended (rule_by d ss xs u)) c.states.ensures.holds) c.put_rule.ensures.writes)

pub returns : goal.returns
returns c =
    let d = side_of c.args.side in
    let ss = symbols_of c.args.d.now.symbols in
    let side = part_is c.args.d.now c.args.side in
    let states = ap states_of c.part-part.ensures ∙ ap (λ p. p.states) side in
    let rules = c.rules-rule-items.ensures.holds ∙ ap rules_of c.part-part.ensures ∙ ap (λ p. p.rules) side in
    let line = rule_by d ss (states_of c.part-part.result.now) in
    let all = lines_are line rule_model _ rules ∙ ap (λ ts. map (rule_by d ss ts) (part (record_of c.args.d.now) d).rules) states in
    bytes_are (ap text_of_lines all) (all_items ended (λ r. line (rule_model r)) _ c.loop-rule.rule-index (omega arith) c.loop-rule.invariant)
