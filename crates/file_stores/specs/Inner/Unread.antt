-- What reading a short file takes of its reader.
use Rattle.std.specs.Prelude.{◌≡◌, ◌<◌, ◌≤◌, ℕ, List, Option, length}
use Rattle.std.specs.Io.KnownBytes.{Consumes, IsAtEnd}
use Rattle.byte_streams.specs.Counted.{IsReadFault, counted_of, read_faults, reader_of}
use Rattle.byte_streams.specs.declared.counted.WholeReader.{WholeReader}
use Rattle.byte_streams.specs.declared.fault.StreamFault.TheVariants as stream
use Rattle.program_stores.specs.declared.faults.ProgramFault.{ProgramFault}
use Rattle.program_stores.specs.declared.faults.ProgramFault.TheVariants as fault

-- A reader was asked for all that it has, and is left so.
module _ {R : Type 0} (remaining : R → Option (List ℕ)) (reader later : WholeReader R) where
  -- This is all that the reader had, and it never failed.
  abbrev pub GivesAll : List ℕ → Type 0
  GivesAll text = Consumes (remaining (reader_of (counted_of reader)))
      (remaining (reader_of (counted_of later))) text
      × IsAtEnd (remaining (reader_of (counted_of later)))
      × (read_faults (counted_of later) ≡ read_faults (counted_of reader))

  -- So it is, and it is no more than so many bytes.
  abbrev pub GivesShort : ℕ → List ℕ → Type 0
  GivesShort most text = GivesAll text × (length text ≤ most)

  -- The fault has its cause: reading failed exactly at ReadFailed, and all that the reader had has
  -- more bytes exactly at TooLong.
  abbrev pub IsUnshort : ℕ → ProgramFault → Type 0
  IsUnshort most fault.ReadFailed =
      IsReadFault (counted_of reader) (counted_of later) stream.ReadFailed
  IsUnshort most fault.NoMemory =
      IsReadFault (counted_of reader) (counted_of later) stream.NoMemory
  IsUnshort most fault.TooLong = (text : List ℕ) × GivesAll text × (most < length text)
  IsUnshort most _ = ⊥
