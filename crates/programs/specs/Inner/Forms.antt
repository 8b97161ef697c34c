-- Tables that are not read.
use Rattle.std.specs.Prelude.{ℕ, List}
use Rattle.csv_import.specs.declared.fault.CsvFault.{CsvFault}
use Rattle.csv_import.specs.declared.fault.CsvFault.TheVariants as csv
use Rattle.programs.specs.Tables.{IsBadTable, IsNoTable}
use Rattle.program_stores.specs.declared.faults.ProgramFault.{ProgramFault}
use Rattle.program_stores.specs.declared.faults.ProgramFault.TheVariants as fault
use Rattle.programs.specs.declared.importing.TableFault.{TableFault}
use Rattle.programs.specs.declared.importing.TableFault.TheVariants as table

-- what a table comes to whose file can't be read so
abbrev pub unread_table : ProgramFault → TableFault
unread_table fault.NoFile = table.Lost fault.NoFile
unread_table fault.TooLong = table.Lost fault.TooLong
unread_table fault.NoMemory = table.Csv csv.NoMemory
unread_table _ = table.Csv csv.ReadFailed

-- what the fault of a text is told as: its reads don't fail
abbrev pub text_fault : CsvFault → CsvFault
text_fault csv.BadHeader = csv.BadHeader
text_fault (csv.BadRow row) = csv.BadRow row
text_fault (csv.BadField row column) = csv.BadField row column
text_fault csv.ReadFailed = csv.NoMemory
text_fault csv.NoMemory = csv.NoMemory

-- This is why the table in a file is not read. The file may hold such a text, or give no text of at
-- most so many bytes for such a fault.
abbrev pub HasNoRows : (List ℕ → Type 0) → (ℕ → ProgramFault → Type 0) → TableFault → Type 0
HasNoRows Holds IsUnread (table.Lost why) = IsNoTable IsUnread why
HasNoRows Holds IsUnread (table.Csv why) = IsBadTable IsUnread Holds why
