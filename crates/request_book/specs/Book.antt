-- How contracts see a book.
use Rattle.request_book.specs.declared.keeper.KeepFault.{KeepFault}
use Rattle.request_book.specs.declared.keeper.KeepFault.TheVariants.{Store}
use Rattle.request_book.specs.declared.keeper.KeepFault.TheVariants.{NoMemory as Memory}
use Rattle.request_book.specs.declared.book.Fault.{Fault}
use Rattle.request_book.specs.declared.book.Fault.TheVariants.{NoMemory, StoreFault}

-- A book is a machine, which decides, and a keeper.
pub record Parts (M K : Type 0) : Type 0 where
  pub machine : M
  pub keeper : K

-- how a book names a keeper's fault
abbrev pub fault_of : KeepFault → Fault
fault_of Memory = NoMemory
fault_of Store = StoreFault
