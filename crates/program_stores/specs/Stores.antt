-- Stores as programs open and close them.
use Rattle.std.specs.Prelude.{Result}
use Rattle.program_stores.specs.declared.faults.ProgramFault.{ProgramFault}

-- what closing a store answers
abbrev pub Closing : Type 0
Closing = Result (Unit {0}) ProgramFault
