-- When a disk is in doubt.
use Rattle.std.specs.Prelude.{◌≡◌, true}
use Rattle.std.proofs.Common.{refl}
use Rattle.sqlite_trees.specs.View.{doubt}

-- There is no doubt of a clean disk.
pub undoubted : doubt true ≡ 0
unfolding doubt
undoubted = refl
