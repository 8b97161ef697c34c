-- Files that are read, and tables of rows as `import` reads them.
use Rattle.std.specs.Prelude.{◌≡◌, ◌≤◌, ◌⊎◌, ⊤, ℕ, List, length}
use Rattle.csv_import.specs.Rows.{AreRows, IsWrong, records_of}
use Rattle.csv_import.specs.declared.fault.CsvFault.{CsvFault}
use Rattle.csv_import.specs.declared.fault.CsvFault.TheVariants as csv
use Rattle.ring_words.specs.declared.device.Row.{Row}
use Rattle.program_stores.specs.declared.faults.ProgramFault.{ProgramFault}
use Rattle.program_stores.specs.declared.faults.ProgramFault.TheVariants as fault

-- how many bytes a table of rows has at most
abbrev pub longest_table : ℕ
longest_table = 65536

-- A file may hold such a text.
module _ (Holds : List ℕ → Type 0) where
  -- The file holds this text, of at most so many bytes.
  abbrev pub HoldsShort : ℕ → List ℕ → Type 0
  HoldsShort most text = Holds text × (length text ≤ most)

  -- The text that the file holds is no longer than a table may be, and tells these rows.
  abbrev pub HoldsTable : List Row → Type 0
  HoldsTable rows = (text : List ℕ) × HoldsShort longest_table text × AreRows (records_of text) rows

  -- It is no longer, but this is wrong with it.
  abbrev pub HoldsWrong : CsvFault → Type 0
  HoldsWrong why = (text : List ℕ) × HoldsShort longest_table text × IsWrong (records_of text) why

-- For such a fault a file gives no text of at most so many bytes.
module _ (IsUnread : ℕ → ProgramFault → Type 0) where
  -- This is why a table is told nothing: its file can't be opened, or has too many bytes.
  abbrev pub IsNoTable : ProgramFault → Type 0
  IsNoTable why = ((why ≡ fault.NoFile) ⊎ (why ≡ fault.TooLong)) × IsUnread longest_table why

  -- This is what a table is told that tells no rows: that reading its file failed, or what is wrong
  -- with the text that the file holds. Want of memory says nothing.
  abbrev pub IsBadTable : (List ℕ → Type 0) → CsvFault → Type 0
  IsBadTable Holds csv.ReadFailed = IsUnread longest_table fault.ReadFailed
  IsBadTable Holds csv.NoMemory = ⊤
  IsBadTable Holds csv.BadHeader = HoldsWrong Holds csv.BadHeader
  IsBadTable Holds (csv.BadRow row) = HoldsWrong Holds (csv.BadRow row)
  IsBadTable Holds (csv.BadField row column) = HoldsWrong Holds (csv.BadField row column)
