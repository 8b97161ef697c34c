-- Why programs end, and how that is told.
use Rattle.std.specs.Prelude.{◌≡◌, ◌⊎◌, ℕ, List, [], ◌∷◌, ◌++◌, Option, codes, decimal}
use Rattle.std.specs.Io.KnownBytes.{Appends}
use Rattle.byte_streams.specs.Counted.{IsFlushed, one_more, write_faults, writer_of}
use Rattle.byte_streams.specs.Writing.{WritesBeginning}
use Rattle.byte_streams.specs.declared.counted.CountedWriter.{CountedWriter}
use Rattle.http_sockets.specs.declared.fault.ServeFault.{ServeFault}
use Rattle.http_sockets.specs.declared.fault.ServeFault.TheVariants as serve
use Rattle.program_stores.specs.Faults.{stream_fault}
use Rattle.program_stores.specs.declared.faults.ProgramFault.{ProgramFault}
use Rattle.program_stores.specs.declared.faults.ProgramFault.TheVariants as fault

-- the name of a fault
abbrev pub program_fault_name : ProgramFault → List ℕ
program_fault_name fault.NoRing = codes "NoRing"
program_fault_name fault.RingExists = codes "RingExists"
program_fault_name fault.TooManyRings = codes "TooManyRings"
program_fault_name fault.TooFewDevices = codes "TooFewDevices"
program_fault_name fault.NotAssigned = codes "NotAssigned"
program_fault_name fault.Unreadable = codes "Unreadable"
program_fault_name fault.NoMemory = codes "NoMemory"
program_fault_name fault.StoreFault = codes "StoreFault"
program_fault_name fault.BadStore = codes "BadStore"
program_fault_name fault.NoFile = codes "NoFile"
program_fault_name fault.NetFailed = codes "NetFailed"
program_fault_name fault.TooLong = codes "TooLong"
program_fault_name fault.BadPath = codes "BadPath"
program_fault_name fault.BadText = codes "BadText"
program_fault_name fault.NoVersion = codes "NoVersion"
program_fault_name fault.ClockAhead = codes "ClockAhead"
program_fault_name fault.ReadFailed = codes "ReadFailed"
program_fault_name fault.WriteFailed = codes "WriteFailed"

-- the number of a fault
abbrev pub fault_number : ProgramFault → ℕ
fault_number fault.NoRing = 1
fault_number fault.RingExists = 2
fault_number fault.TooManyRings = 3
fault_number fault.TooFewDevices = 9
fault_number fault.NotAssigned = 10
fault_number fault.Unreadable = 20
fault_number fault.NoMemory = 23
fault_number fault.StoreFault = 24
fault_number fault.BadStore = 26
fault_number fault.NoFile = 27
fault_number fault.NetFailed = 28
fault_number fault.TooLong = 29
fault_number fault.BadPath = 30
fault_number fault.BadText = 31
fault_number fault.NoVersion = 32
fault_number fault.ClockAhead = 33
fault_number fault.ReadFailed = 50
fault_number fault.WriteFailed = 51

-- the line that tells a fault: its name and its number
abbrev pub fault_line : ProgramFault → List ℕ
fault_line why = codes "ringd: " ++ program_fault_name why ++ 32
    ∷ decimal (fault_number why) ++ 10 ∷ []

-- what the fault of a service is told as
abbrev pub serve_fault : ServeFault → ProgramFault
serve_fault serve.NetFailed = fault.NetFailed
serve_fault (serve.Stream cause) = stream_fault cause

-- The writer got this text: it took all of it and was flushed, or it failed and took a beginning.
abbrev pub GetsText : {E : Type 0} → (E → Option (List ℕ)) → CountedWriter E → CountedWriter E →
    List ℕ → Type 0
GetsText contents old new text =
    ((write_faults new ≡ write_faults old) × Appends (contents (writer_of old))
    (contents (writer_of new)) text × IsFlushed new)
    ⊎ ((write_faults new ≡ one_more (write_faults old)) × WritesBeginning (contents (writer_of old))
    (contents (writer_of new)) text)

-- The writer got these texts, one after another.
abbrev pub GetsTexts : {E : Type 0} → (E → Option (List ℕ)) → CountedWriter E → CountedWriter E →
    List (List ℕ) → Type 0
GetsTexts contents old new [] = new ≡ old
GetsTexts {E} contents old new (text ∷ texts) = (mid : CountedWriter E)
    × GetsText contents old mid text × GetsTexts contents mid new texts
