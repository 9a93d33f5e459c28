use Rattle.std.proofs.Common.{◌+◌, ◌*◌, ◌≤◌, map, take}
use Rattle.std.specs.List.{flat_map}
use Rattle.words.specs.Puts.{Writes}
use Rattle.line_writer.specs.Writing.{after_space, named}
use Rattle.line_writer.proofs.put_names.Given as goal

abbrev pub invariant-loop-k : goal.invariant-loop-k
invariant-loop-k g l = record {
  writes : Writes l.initial.pen (flat_map after_space (map (named (map g.T.Named.called l.items)) (take l.k-index l.numbers))) l.pen;
  near : l.pen.at ≤ l.initial.pen.at + 9 * l.k-index;
}
