-- The rows that a text of CSV tells, or what is wrong with it.
use Rattle.std.specs.Prelude.{◌≡◌, ◌≢◌, ⊤, ℕ, ◌+◌, List, ◌∷◌, ◌++◌, length}
use Rattle.std.specs.List.{AllZip}
use Rattle.byte_streams.specs.Counted.{one_more, read_faults}
use Rattle.byte_streams.specs.declared.counted.CountedReader.{CountedReader}
use Rattle.csv.specs.Reading.{default_config, records, strip_bom}
use Rattle.ring_words.specs.declared.device.Row.{Row}
use Rattle.csv_import.specs.Fields.{header, IsRow, IsFirstBad}
use Rattle.csv_import.specs.declared.fault.CsvFault.{CsvFault}
use Rattle.csv_import.specs.declared.fault.CsvFault.TheVariants.{BadHeader, BadRow, BadField}
use Rattle.csv_import.specs.declared.fault.CsvFault.TheVariants.{ReadFailed, NoMemory}

-- the records of a text behind its byte order mark, if it has one: fields between commas, quoted or
-- not
abbrev pub records_of : List ℕ → List (List (List ℕ))
records_of text = records default_config (strip_bom text)

-- The records are the names of the columns, and a record for each row.
abbrev pub AreRows : List (List (List ℕ)) → List Row → Type 0
AreRows all rows = (behind : List (List (List ℕ))) × (all ≡ header ∷ behind) ×
    AllZip IsRow behind rows

-- Behind the names of the columns and rows, the record of this number, counted from 1, has these
-- fields.
pub record IsBehindRows (all : List (List (List ℕ))) (number : ℕ) (fields : List (List ℕ)) : Type 0
  where
    pub good : List (List (List ℕ))
    pub rows : List Row
    pub rest : List (List (List ℕ))
    pub split : all ≡ header ∷ (good ++ fields ∷ rest)
    pub are_rows : AllZip IsRow good rows
    pub count : number ≡ length good + 1

-- This is what is wrong with the first record that isn't as it should be. Nothing is said where
-- memory was refused, and a text has no failed reads.
abbrev pub IsWrong : List (List (List ℕ)) → CsvFault → Type 0
IsWrong all BadHeader = (behind : List (List (List ℕ))) → all ≢ header ∷ behind
IsWrong all (BadRow number) = (fields : List (List ℕ)) × IsBehindRows all number fields ×
    (length fields ≢ 6)
IsWrong all (BadField number column) = (fields : List (List ℕ)) × IsBehindRows all number fields ×
    (length fields ≡ 6) × IsFirstBad fields column
IsWrong all ReadFailed = ⊥
IsWrong all NoMemory = ⊤

-- The fault has its cause: the reader failed once more exactly at ReadFailed.
abbrev pub IsCsvCaused : {R : Type 0} → CountedReader R → CountedReader R → CsvFault → Type 0
IsCsvCaused old new ReadFailed = read_faults new ≡ one_more (read_faults old)
IsCsvCaused old new NoMemory = read_faults new ≡ read_faults old
IsCsvCaused old new BadHeader = read_faults new ≡ read_faults old
IsCsvCaused old new (BadRow number) = read_faults new ≡ read_faults old
IsCsvCaused old new (BadField number column) = read_faults new ≡ read_faults old
