-- What faults mean to the one who reads them, and of which file they tell.
use Rattle.std.specs.Prelude.{◌∷◌, [], ℕ, List, None, Option, Some, codes, option_map}
use Rattle.std.specs.Borrow.{Bor}
use Rattle.command_line.specs.declared.task.Task.{Task}
use Rattle.command_line.specs.declared.task.Task.TheVariants as task
use Rattle.program_stores.specs.declared.faults.ProgramFault.{ProgramFault}
use Rattle.program_stores.specs.declared.faults.ProgramFault.TheVariants as fault

-- what a fault means, and what to look at
abbrev pub fault_meaning : ProgramFault → List ℕ
fault_meaning fault.NoRing = codes "it has no ring of this name: look at the spelling of both, since a FILE that is missing is made, without rings\n"
fault_meaning fault.RingExists = codes "two rings have one name: give one of them another, in the second line of its text\n"
fault_meaning fault.TooManyRings = codes "a file holds 16 rings at most: found some of them in a file of their own\n"
fault_meaning fault.TooFewDevices = codes "fewer of the ring's devices take seats than a partition has replicas: add devices, or give some a weight above 0\n"
fault_meaning fault.NotAssigned = codes "the ring was never rebalanced, so no device holds any of it: rebalance it first\n"
fault_meaning fault.Unreadable = codes "a name or a number is not of its form: names of rings and callers are 1 to 32 of a to z, 0 to 9 and -, a letter first; numbers are 0 to 4294967295, without leading zeros\n"
fault_meaning fault.NoMemory = codes "there was not enough memory: look at the limits of the unit or the shell, and try again\n"
fault_meaning fault.StoreFault = codes "another program has it, or it can't be opened, read or written: look who has it (fuser), whether it is a plain file of one name in a folder that is there, at the rights of both, and whether the disk is full\n"
fault_meaning fault.BadStore = codes "it is no store of ringd, one of a later version, or damaged: look at its name and at 'ringd version' before you put a backup in its place\n"
fault_meaning fault.NoFile = codes "it can't be opened: look at its name and its rights\n"
fault_meaning fault.NetFailed = codes "the port can't be had: look who has it (ss -ltnp); where it was served already, no more connections can be had: start again\n"
fault_meaning fault.TooLong = codes "it is too long: a CSV table may have 65536 bytes, an INPUT 32768, and the text of a ring 1048576\n"
fault_meaning fault.BadPath = codes "this is no path: an account and a container are 1 to 256 bytes without a slash, and an object is 1 to 1024 bytes and in a container\n"
fault_meaning fault.BadText = codes "a TEXT is not the text of a ring: the line before the fault says which TEXT, and its first line that is wrong\n"
fault_meaning fault.NoVersion = codes "the ring was not published under this version: the reply to publish names it\n"
fault_meaning fault.ClockAhead = codes "look at this machine's clock; where it is right, start once with --hour-ok\n"
fault_meaning fault.ReadFailed = codes "it could not be read to its end: look at the file or the pipe\n"
fault_meaning fault.WriteFailed = codes "the output could not be written: its reader is gone, or the disk is full; what was decided stays decided\n"

-- what it means where a new store can't be made, and what to look at
abbrev pub new_store_meaning : List ℕ
new_store_meaning = codes "a NEW that is there already is not written over; or another program has it, or it can't be opened, read or written: look who has it (fuser), whether it is a plain file of one name in a folder that is there, at the rights of both, and whether the disk is full\n"

-- what a fault of a task means: where it is to make a new store, that store may be there already
abbrev pub meaning_for : Task → ProgramFault → List ℕ
meaning_for (task.Renew file fresh) fault.StoreFault = new_store_meaning
meaning_for (task.Found fresh texts min_hours given from) fault.StoreFault = new_store_meaning
meaning_for t why = fault_meaning why

-- Where a task has a new store and, maybe, an old one: the new one, if there is no other; the old
-- one, if it is no store; and else either may be meant.
abbrev pub named_of_two : List ℕ → Option (List ℕ) → ProgramFault → List ℕ
named_of_two fresh None why = fresh
named_of_two fresh (Some file) fault.BadStore = file
named_of_two fresh (Some file) why = codes "FILE or NEW"

-- the file of a task's store, as its words name it
abbrev pub store_named : Task → ProgramFault → List ℕ
store_named (task.Run None) why = codes "memory"
store_named (task.Run (Some file)) why = file.now
store_named (task.Serve file port count given names) why = file.now
store_named (task.Service file port hosts hour_ok names) why = file.now
store_named (task.Loop file input given names) why = file.now
store_named (task.Import file ring caller number csv given) why = file.now
store_named (task.Table file ring) why = file.now
store_named (task.Show file what) why = file.now
store_named (task.Log file from lines) why = file.now
store_named (task.Nodes file ring account container object names) why = file.now
store_named (task.Export file ring version written) why = file.now
store_named (task.Renew file fresh) why = named_of_two fresh.now (Some file.now) why
store_named (task.Found fresh texts min_hours given from) why =
    named_of_two fresh.now (option_map (λ file. file.now) from) why
store_named task.Version why = []

-- one file of these names, or which of them is not told
abbrev pub one_text : List (Bor (List ℕ)) → List ℕ
one_text (text ∷ []) = text.now
one_text _ = codes "TEXT"

-- Which file of a founding a fault tells of: what is not there may be the store that is given, too.
abbrev pub text_named : List (Bor (List ℕ)) → Option (List ℕ) → ProgramFault → List ℕ
text_named texts (Some file) fault.NoFile = codes "TEXT or FILE"
text_named texts from why = one_text texts

-- the file that a task reads beside its store, as its words name it
abbrev pub input_named : Task → ProgramFault → List ℕ
input_named (task.Loop file input given names) why = input.now
input_named (task.Import file ring caller number csv given) why = csv.now
input_named (task.Found fresh texts min_hours given from) why =
    text_named texts.items (option_map (λ file. file.now) from) why
input_named _ why = codes "standard input"

-- the file of which a fault tells, if it tells of one
abbrev pub file_told : Task → ProgramFault → Option (List ℕ)
file_told t fault.NoRing = Some (store_named t fault.NoRing)
file_told t fault.TooFewDevices = Some (store_named t fault.TooFewDevices)
file_told t fault.NotAssigned = Some (store_named t fault.NotAssigned)
file_told t fault.NoVersion = Some (store_named t fault.NoVersion)
file_told t fault.StoreFault = Some (store_named t fault.StoreFault)
file_told t fault.BadStore = Some (store_named t fault.BadStore)
file_told t fault.NoFile = Some (input_named t fault.NoFile)
file_told t fault.TooLong = Some (input_named t fault.TooLong)
file_told t fault.ReadFailed = Some (input_named t fault.ReadFailed)
file_told t _ = None

-- a line in parts: the program, a file, if there is one, and a meaning
abbrev pub meaning_parts : Option (List ℕ) → List ℕ → List (List ℕ)
meaning_parts None meaning = codes "ringd: " ∷ meaning ∷ []
meaning_parts (Some file) meaning = codes "ringd: " ∷ file ∷ codes ": " ∷ meaning ∷ []

-- the line behind that of a fault, in parts: of which file it tells, if of one, and what it means
abbrev pub meaning_texts : Task → ProgramFault → List (List ℕ)
meaning_texts t why = meaning_parts (file_told t why) (meaning_for t why)
