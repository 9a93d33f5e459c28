use Rattle.std.proofs.Common.{◌≡◌, ◌++◌, map, take, drop}
use Rattle.opening.specs.Opened.{field_of, session}
use Rattle.opening.specs.Opening.{final_of}
use Rattle.opening.proofs.Steps.{finished}
use Rattle.session.specs.Sessions.{side}
use Rattle.side.specs.Numbers.{number}
use Rattle.opening.proofs.opened.Opened.give_finals.Given as goal

abbrev pub invariant-loop-i : goal.invariant-loop-i
invariant-loop-i g l =
    let before = (side (session l.initial.self).sides (number l.side)).finals in
    record {
      holds : session l.self ≡ finished (session l.initial.self) (number l.side) (map final_of (take l.i l.states) ++ drop l.i before);
      field : field_of l.self ≡ field_of l.initial.self;
    }
