-- A text that is read in part.
use Rattle.std.specs.Prelude.{◌≡◌, ◌≢◌, ◌<◌, ◌≤◌, true, ℕ, codes, List, ◌∷◌, length, Option, Some}
use Rattle.csv.specs.Reading.{Ready, Reached, default_config, is_flexible, reader_config}
use Rattle.csv.specs.Reading.{reader_state, reader_trim, source_of, strip_bom}
use Rattle.csv.specs.declared.parser.State.TheVariants as st
use Rattle.csv.specs.declared.reader.Reader.{Reader}
use Rattle.csv.specs.declared.reader.Trim.TheVariants as trim
use Rattle.std.specs.List.{AllZip}
use Rattle.ring_words.specs.declared.device.Row.{Row}
use Rattle.csv_import.specs.Fields.{HasForm, IsFirstBad, IsRow, field_in, header}
use Rattle.csv_import.specs.declared.fault.CsvFault.{CsvFault}
use Rattle.csv_import.specs.declared.fault.CsvFault.TheVariants.{BadHeader, BadRow, BadField}
use Rattle.csv_import.specs.declared.fault.CsvFault.TheVariants.{ReadFailed, NoMemory}

-- The reader gives one record at a time as it stands, of any length.
abbrev pub IsOpen : {R : Type 0} → Reader R → Type 0
IsOpen reader = (reader_trim reader ≡ trim.None) × Ready reader × (is_flexible reader ≡ true)

-- The reader has given these first records of a text.
pub record HasGiven {R : Type 0} (remaining : R → Option (List ℕ)) (text : List ℕ)
    (given : List (List (List ℕ))) (reader : Reader R) : Type 0 where
  pub config : reader_config reader ≡ default_config
  pub rest : List ℕ
  pub source : source_of remaining reader ≡ Some rest
  pub reached : Reached default_config st.StartRecord (strip_bom text) given (reader_state reader)
      rest

-- The reader has given the names of the columns and these rows of a text.
pub record HasGivenRows {R : Type 0} (remaining : R → Option (List ℕ)) (text : List ℕ)
    (rows : List Row) (reader : Reader R) : Type 0 where
  pub good : List (List (List ℕ))
  pub given : HasGiven remaining text (header ∷ good) reader
  pub are_rows : AllZip IsRow good rows

-- This is what is wrong with the fields of the record of this number. Memory is asked for the name
-- alone, once the columns up to it are seen to have their form.
abbrev pub IsWrongWith : List (List ℕ) → ℕ → CsvFault → Type 0
IsWrongWith fields number (BadRow n) = (n ≡ number) × (length fields ≢ 6)
IsWrongWith fields number (BadField n column) = (n ≡ number) × (length fields ≡ 6) ×
    IsFirstBad fields column
IsWrongWith fields number NoMemory = (length fields ≡ 6) ×
    ((column : ℕ) → 1 ≤ column → column < 6 → HasForm fields column)
IsWrongWith fields number ReadFailed = ⊥
IsWrongWith fields number BadHeader = ⊥

-- The first three fields are the names of their columns.
abbrev pub AreFirstNamed : List (List ℕ) → Type 0
AreFirstNamed fields = (field_in fields 1 ≡ codes "region") × (field_in fields 2 ≡ codes "zone") ×
    (field_in fields 3 ≡ codes "address")

-- The last three are.
abbrev pub AreLastNamed : List (List ℕ) → Type 0
AreLastNamed fields = (field_in fields 4 ≡ codes "port") × (field_in fields 5 ≡ codes "name") ×
    (field_in fields 6 ≡ codes "weight")
