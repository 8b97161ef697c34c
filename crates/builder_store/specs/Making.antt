-- What a store is made with.
use Rattle.std.specs.Prelude.{◌≡◌, ⊤, ℕ, []}
use Rattle.store_rows.specs.OwnTexts.{HavePublishedOwn}
use Rattle.store_rows.specs.RingRows.{NamedRings}
use Rattle.store_rows.specs.Stands.{RingContent}
use Rattle.builder_store.specs.Opening.{JudgesFiles, TellsOpenFault}
use Rattle.builder_store.specs.declared.fault.MakeFault.{MakeFault}
use Rattle.builder_store.specs.declared.fault.MakeFault.TheVariants.{ForeignText, Opening}
use Rattle.builder_store.specs.declared.fault.MakeFault.TheVariants.{PathTaken, Taken}

-- These rings, no request, and this as the hour from which the book goes on.
abbrev pub rings_alone : NamedRings → ℕ → RingContent
rings_alone rings hour = record { state = rings; book = []; hour = hour }

-- The fault judges what is there.
abbrev pub IsJudgement : MakeFault → Type 0
IsJudgement PathTaken = ⊥
IsJudgement Taken = ⊥
IsJudgement ForeignText = ⊥
IsJudgement (Opening why) = JudgesFiles why

-- Where rings are told to have published a foreign text, they have published one.
abbrev pub IsForeign : NamedRings → MakeFault → Type 0
IsForeign rings why = why ≡ ForeignText → HavePublishedOwn rings → ⊥

-- The fault tells that nothing was written.
abbrev pub WritesNothing : MakeFault → Type 0
WritesNothing PathTaken = ⊤
WritesNothing Taken = ⊤
WritesNothing ForeignText = ⊤
WritesNothing (Opening why) = ⊥

-- The fault tells of the disk under a store over which a connection was made.
abbrev pub IsFailure : MakeFault → Type 0
IsFailure PathTaken = ⊥
IsFailure Taken = ⊥
IsFailure ForeignText = ⊥
IsFailure (Opening why) = TellsOpenFault why
