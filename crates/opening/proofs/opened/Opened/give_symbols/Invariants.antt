use Rattle.std.proofs.Common.{◌≡◌, map, take}
use Rattle.opening.specs.Opened.{field_of, session}
use Rattle.opening.specs.Opening.{rank_of}
use Rattle.opening.proofs.Steps.{symbolled}
use Rattle.opening.proofs.opened.Opened.give_symbols.Given as goal

abbrev pub invariant-loop-symbol : goal.invariant-loop-symbol
invariant-loop-symbol g l =
    record {
      holds : session l.self ≡ symbolled (session l.initial.self) (map rank_of (take l.symbol-index l.symbols));
      field : field_of l.self ≡ field_of l.initial.self;
    }
