use Rattle.std.proofs.Common.{◌+◌, ◌-◌, ◌≤◌, length}
use Rattle.format.proofs.Loop.{ReadSoFar}
use Rattle.reader.specs.Reads.{meaning}
use Rattle.reader.proofs.read.Given as goal

-- the lines before this one are read; there are at most as many as bytes
abbrev pub invariant-loop-bytes : goal.invariant-loop-bytes
invariant-loop-bytes l =
    ReadSoFar l.text l.rest (meaning l.reader) (l.line - 1) × (1 ≤ l.line) × (l.line + length l.rest ≤ 65537)

abbrev pub decreases-loop-bytes : goal.decreases-loop-bytes
decreases-loop-bytes l = length l.rest
