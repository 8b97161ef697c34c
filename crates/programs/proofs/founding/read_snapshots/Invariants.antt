use Rattle.std.proofs.Common.{◌≡◌, take}
use Rattle.programs.specs.Founding.{HoldRings}
use Rattle.programs.specs.Left.{GivesText}
use Rattle.programs.specs.Performed.{texts_given}
use Rattle.programs.proofs.founding.read_snapshots.Given as goal

-- the files so far tell these rings, and nothing was told
abbrev pub invariant-loop-name : goal.invariant-loop-name
invariant-loop-name g l = HoldRings (GivesText g.S.Stores)
    (texts_given (take l.name-index l.names)) l.snapshots.items × (l.errors ≡ l.initial.errors)
