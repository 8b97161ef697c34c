use Rattle.std.proofs.Common.{inl, inr, refl}
use Rattle.file_stores.proofs.opening.open_fault.Goals as goal

pub returns-in-NoDatabase : goal.returns-in-NoDatabase
returns-in-NoDatabase c = elim c.in-NoDatabase.is [
  | inl p ↦ rw p refl
  | inr p ↦ rw p refl
]
