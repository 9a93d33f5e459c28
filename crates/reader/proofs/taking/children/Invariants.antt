use Rattle.std.proofs.Common.{◌≡◌, ℕ, List, ◌++◌, length}
use Rattle.lines.specs.Recognized.{parted}
use Rattle.drafts.specs.Drafts.{ChildrenAre}
use Rattle.reader.proofs.taking.children.Given as goal

-- the children so far are some of the names, and the others are in the rest
abbrev pub invariant-loop-name : goal.invariant-loop-name
invariant-loop-name l =
    (cs : List (List ℕ)) × ChildrenAre l.draft l.side cs l.children × (parted l.names ≡ cs ++ parted l.rest)

abbrev pub decreases-loop-name : goal.decreases-loop-name
decreases-loop-name l = length l.rest
