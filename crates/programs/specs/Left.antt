-- Stores and files of which programs keep what a call answered, and drop what it gave back beside that.
use Rattle.std.specs.Prelude.{◌⊎◌, ℕ, List, Err, Ok}
use Rattle.builder.specs.Step.{State}
use Rattle.program_stores.specs.Faults.{IsCloseFault}
use Rattle.program_stores.specs.Stores.{Closing}
use Rattle.program_stores.specs.declared.faults.ProgramFault.{ProgramFault}
use Rattle.program_stores.specs.declared.stores.Stores as store_calls

-- Stores are these. What their calls give back is: keepers, what is left of those that were not opened
-- and of those that were closed; and stores that were made, and the same of them; and readers.
module _ {S K U C M N F R : Type 0} (g : store_calls.Ghosts S K U C M N F R) where
  -- A store of this name wasn't opened, for this fault.
  abbrev pub RefusesToOpen : List ℕ → ProgramFault → Type 0
  RefusesToOpen name why = (left : U) × g.refuses name why left

  -- A keeper was closed, which answered so.
  abbrev pub Closes : K → Closing → Type 0
  Closes keeper answer = (left : C) × g.ends keeper answer left

  -- A store that was made was closed, which answered so.
  abbrev pub Finishes : M → Closing → Type 0
  Finishes made answer = (left : F) × g.finishes made answer left

  -- A store of this name was made of these rings and this hour, and was closed.
  abbrev pub MakesStore : List ℕ → State → ℕ → Type 0
  MakesStore name rings hour = (made : M) × g.is_made name rings hour made × Finishes made (Ok tt)

  -- For this fault none was made of these; or one was, and closing it failed so.
  abbrev pub FailsToMake : List ℕ → State → ℕ → ProgramFault → Type 0
  FailsToMake name rings hour why = ((left : N) × g.is_unmade name rings hour why left)
      ⊎ ((made : M) × g.is_made name rings hour made × IsCloseFault why × Finishes made (Err why))

  -- The file of this name gave this text.
  abbrev pub GivesText : List ℕ → List ℕ → Type 0
  GivesText name text = (left : R) × g.holds name text left

  -- The file of this name gave no text of at most so many bytes, for this fault.
  abbrev pub GivesNoText : List ℕ → ℕ → ProgramFault → Type 0
  GivesNoText name most why = (left : R) × g.is_unread name most why left
