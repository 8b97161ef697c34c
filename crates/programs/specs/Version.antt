-- What the program `version` tells.
use Rattle.std.specs.Prelude.{◌≡◌, ℕ, List, Option, codes}
use Rattle.std.specs.Io.KnownBytes.{Appends}
use Rattle.byte_streams.specs.Counted.{IsFlushed, one_more, write_faults, writer_of}
use Rattle.byte_streams.specs.Writing.{WritesBeginning}
use Rattle.byte_streams.specs.declared.counted.CountedWriter.{CountedWriter}
use Rattle.program_stores.specs.declared.faults.ProgramFault.{ProgramFault}
use Rattle.program_stores.specs.declared.faults.ProgramFault.TheVariants as fault

-- the version of the program, the schemas of files that it opens and writes, and what proved it
abbrev pub version_text : List ℕ
version_text = codes "ringd 1.0.0\nopens files of schema 1 and 2, writes schema 2\nproved with rattle-kit-13f logic dac8208d650f15bf\n"

module _ {W : Type 0} (contents : W → Option (List ℕ)) (writer later : CountedWriter W) where
  -- The version was written and flushed.
  abbrev pub TellsVersion : Type 0
  TellsVersion = Appends (contents (writer_of writer)) (contents (writer_of later)) version_text
      × (write_faults later ≡ write_faults writer) × IsFlushed later

  -- The writer failed, and took a beginning of it.
  abbrev pub FailsToTellVersion : ProgramFault → Type 0
  FailsToTellVersion why = (why ≡ fault.WriteFailed)
      × WritesBeginning (contents (writer_of writer)) (contents (writer_of later)) version_text
      × (write_faults later ≡ one_more (write_faults writer))
