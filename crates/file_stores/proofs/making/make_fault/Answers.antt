use Rattle.std.proofs.Common.{inl, inr, refl}
use Rattle.file_stores.proofs.making.make_fault.Goals as goal

pub returns-in-PathTaken : goal.returns-in-PathTaken
returns-in-PathTaken c = elim c.in-PathTaken.is [
  | inl p ↦ rw p refl
  | inr p ↦ rw p refl
]
