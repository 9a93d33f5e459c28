use Rattle.std.proofs.Common.{◌≡◌, map, take}
use Rattle.opening.specs.Opened.{field_of, session}
use Rattle.opening.proofs.Steps.{ruled_by}
use Rattle.rules.specs.Rules.{rule_model}
use Rattle.side.specs.Numbers.{number}
use Rattle.opening.proofs.opened.Opened.give_rules.Given as goal

abbrev pub invariant-loop-rule : goal.invariant-loop-rule
invariant-loop-rule g l =
    record {
      holds : session l.self ≡ ruled_by (session l.initial.self) (number l.side) (map rule_model (take l.rule-index l.rules));
      field : field_of l.self ≡ field_of l.initial.self;
    }
