use Rattle.std.proofs.Common.{◌≡◌, take}
use Rattle.words.specs.Puts.{overlaid}
use Rattle.words.proofs.pen.Pen.bytes.Given as goal

abbrev pub invariant-loop-i : goal.invariant-loop-i
invariant-loop-i l = (l.self.out.ghost_name ≡ l.initial.self.out.ghost_name) × (l.self.out.now ≡ overlaid l.initial.self.out.now l.at (take l.i l.taken))
