-- Why programs end: what the faults of others are told as, and which come of stores and files.
use Rattle.std.specs.Prelude.{⊤}
use Rattle.byte_streams.specs.declared.fault.StreamFault.{StreamFault}
use Rattle.byte_streams.specs.declared.fault.StreamFault.TheVariants as stream
use Rattle.request_book.specs.declared.keeper.KeepFault.{KeepFault}
use Rattle.request_book.specs.declared.keeper.KeepFault.TheVariants as keep
use Rattle.ring_founding.specs.declared.founding.FoundFault.{FoundFault}
use Rattle.ring_founding.specs.declared.founding.FoundFault.TheVariants as found
use Rattle.ring_reads.specs.declared.reads.Hidden.{Hidden}
use Rattle.ring_reads.specs.declared.reads.Hidden.TheVariants as hidden
use Rattle.ring_words.specs.declared.spelling.SpellingFault.{SpellingFault}
use Rattle.ring_words.specs.declared.spelling.SpellingFault.TheVariants as spelling
use Rattle.program_stores.specs.declared.faults.ProgramFault.{ProgramFault}
use Rattle.program_stores.specs.declared.faults.ProgramFault.TheVariants as fault

-- what a word that isn't of its form is told as
abbrev pub form_fault : SpellingFault → ProgramFault
form_fault spelling.Bad = fault.Unreadable
form_fault spelling.NoMemory = fault.NoMemory

-- what the fault of a keeper is told as
abbrev pub keep_fault : KeepFault → ProgramFault
keep_fault keep.Store = fault.StoreFault
keep_fault keep.NoMemory = fault.NoMemory

-- what the fault of a stream is told as
abbrev pub stream_fault : StreamFault → ProgramFault
stream_fault stream.ReadFailed = fault.ReadFailed
stream_fault stream.WriteFailed = fault.WriteFailed
stream_fault stream.NoMemory = fault.NoMemory

-- what the fault of a founding is told as
abbrev pub found_fault : FoundFault → ProgramFault
found_fault found.RingExists = fault.RingExists
found_fault found.TooManyRings = fault.TooManyRings
found_fault found.NoMemory = fault.NoMemory

-- the fault that tells why nothing is shown
abbrev pub hidden_fault : Hidden → ProgramFault
hidden_fault hidden.NoRing = fault.NoRing
hidden_fault hidden.NotAssigned = fault.NotAssigned
hidden_fault hidden.NoVersion = fault.NoVersion
hidden_fault hidden.BadText = fault.BadStore
hidden_fault hidden.TooFewDevices = fault.TooFewDevices
hidden_fault hidden.NoMemory = fault.NoMemory

-- The fault is one of the store's: its files can't be opened or made, it failed, they hold none, or
-- there is no memory.
abbrev pub IsStoreFault : ProgramFault → Type 0
IsStoreFault fault.StoreFault = ⊤
IsStoreFault fault.BadStore = ⊤
IsStoreFault fault.NoMemory = ⊤
IsStoreFault _ = ⊥

-- The fault is one of closing a store: its files failed, or there was no memory.
abbrev pub IsCloseFault : ProgramFault → Type 0
IsCloseFault fault.StoreFault = ⊤
IsCloseFault fault.NoMemory = ⊤
IsCloseFault _ = ⊥

-- The fault is one of a file that is read: it can't be opened, reading it failed, it has too many
-- bytes, or there is no memory for them.
abbrev pub IsFileFault : ProgramFault → Type 0
IsFileFault fault.NoFile = ⊤
IsFileFault fault.ReadFailed = ⊤
IsFileFault fault.TooLong = ⊤
IsFileFault fault.NoMemory = ⊤
IsFileFault _ = ⊥
