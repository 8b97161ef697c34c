-- Faults of stores.
use Rattle.builder_store.specs.declared.fault.FileFault.{FileFault}
use Rattle.builder_store.specs.declared.fault.FileFault.TheVariants as file
use Rattle.builder_store.specs.declared.fault.MakeFault.{MakeFault}
use Rattle.builder_store.specs.declared.fault.MakeFault.TheVariants as making
use Rattle.builder_store.specs.declared.fault.OpenFault.TheVariants as opening
use Rattle.program_stores.specs.Faults.{IsStoreFault}
use Rattle.file_stores.specs.Unopened.{make_fault, open_fault}

-- why a store isn't opened is told as a fault of the store
pub store_fault : (cause : FileFault) → IsStoreFault (open_fault cause)
store_fault file.Busy = tt
store_fault file.CannotOpen = tt
store_fault file.NoDatabase = tt
store_fault file.Damaged = tt
store_fault file.NoMemory = tt
store_fault file.Store = tt
store_fault (file.Opening opening.NoMemory) = tt
store_fault (file.Opening opening.Store) = tt
store_fault (file.Opening opening.Damaged) = tt
store_fault (file.Opening opening.Refused) = tt
store_fault (file.Opening opening.BadRows) = tt
store_fault (file.Opening opening.BadTexts) = tt
store_fault (file.Opening opening.BadTables) = tt

-- and so is why none is made
pub store_unmade : (cause : MakeFault) → IsStoreFault (make_fault cause)
store_unmade making.PathTaken = tt
store_unmade making.Taken = tt
store_unmade making.ForeignText = tt
store_unmade (making.Opening cause) = store_fault cause
