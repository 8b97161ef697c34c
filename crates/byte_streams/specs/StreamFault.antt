-- The faults of a stream.
use Rattle.std.specs.Prelude.{ℕ, List, codes}
use Rattle.byte_streams.specs.declared.fault.StreamFault.{StreamFault}
use Rattle.byte_streams.specs.declared.fault.StreamFault.TheVariants.{ReadFailed, WriteFailed}
use Rattle.byte_streams.specs.declared.fault.StreamFault.TheVariants.{NoMemory}

-- the name of a fault
abbrev pub fault_name : StreamFault → List ℕ
fault_name ReadFailed = codes "ReadFailed"
fault_name WriteFailed = codes "WriteFailed"
fault_name NoMemory = codes "NoMemory"
