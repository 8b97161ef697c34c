-- A log that is written page by page.
use Rattle.std.specs.Prelude.{◌≡◌, ◌⊎◌, ℕ, Bool, List, Option, length, nat_lt}
use Rattle.std.specs.Io.KnownBytes.{Appends}
use Rattle.builder.specs.Safety.{Entries}
use Rattle.byte_streams.specs.Counted.{IsFlushed, one_more, write_faults, writer_of}
use Rattle.byte_streams.specs.Writing.{WritesBeginning}
use Rattle.byte_streams.specs.declared.counted.CountedWriter.{CountedWriter}
use Rattle.request_book.specs.Content.{entries_from}
use Rattle.request_book.specs.declared.keeper.KeepFault.{KeepFault}
use Rattle.ring_book.specs.Book.{Keeping}
use Rattle.ring_log.specs.Log.{entries_text}
use Rattle.ring_log.specs.declared.text.LogForm.{LogForm}
use Rattle.programs.specs.Begun.{HasFailedBy, HasNotFailed}
use Rattle.program_stores.specs.Faults.{keep_fault}
use Rattle.programs.specs.Logging.{TellsLog, TellsSome}
use Rattle.program_stores.specs.declared.faults.ProgramFault.{ProgramFault}
use Rattle.program_stores.specs.declared.faults.ProgramFault.TheVariants as fault

-- so many entries are read and written at a time
abbrev pub page_size : ℕ
page_size = 1000

-- A keeper failed by this fault, and the writer did not fail; or the keeper has not failed, and the
-- writer failed once more.
abbrev pub FailsBy : {K W : Type 0} → Keeping K → CountedWriter W → CountedWriter W → ProgramFault
    → K → Type 0
FailsBy g writer later why keeper =
    ((cause : KeepFault) × (why ≡ keep_fault cause) × HasFailedBy g cause keeper
    × (write_faults later ≡ write_faults writer))
    ⊎ ((why ≡ fault.WriteFailed) × HasNotFailed g keeper
    × (write_faults later ≡ one_more (write_faults writer)))

-- The keeper and the writer are these, before and after.
module _ {K W : Type 0} (g : Keeping K) (contents : W → Option (List ℕ)) (written : LogForm)
    (from : ℕ) (old new : K) (writer later : CountedWriter W) where
  -- A page of the book, from a place on, was written and flushed, and whether it is full is told.
  pub record WritesPage (last : Bool) : Type 0 where
    pub page : Entries
    pub is : g.sound new → page ≡ entries_from from page_size (g.content old).book
    pub has : last ≡ nat_lt (length page) page_size
    pub wrote : Appends (contents (writer_of writer)) (contents (writer_of later))
        (entries_text written from page)
    pub same : write_faults later ≡ write_faults writer
    pub flushed : IsFlushed later

  -- A beginning of it was written.
  pub record BreaksPage : Type 0 where
    pub page : Entries
    pub is : g.sound new → page ≡ entries_from from page_size (g.content old).book
    pub wrote : WritesBeginning (contents (writer_of writer)) (contents (writer_of later))
        (entries_text written from page)

  -- All that the log has from a place on was written and flushed.
  pub record WritesPages : Type 0 where
    pub text : List ℕ
    pub tells : g.sound new → TellsLog written from text (g.content old).book
    pub wrote : Appends (contents (writer_of writer)) (contents (writer_of later)) text
    pub same : write_faults later ≡ write_faults writer
    pub flushed : IsFlushed later

  -- A beginning of it was written.
  pub record BreaksPages : Type 0 where
    pub text : List ℕ
    pub tells : g.sound new → TellsSome written from text (g.content old).book
    pub wrote : WritesBeginning (contents (writer_of writer)) (contents (writer_of later)) text

  -- So many entries were written, and there are so many; after the first page the writer is flushed.
  pub record WroteSome (count : ℕ) : Type 0 where
    pub sound : g.sound new → g.sound old
    pub stays : g.sound new → g.content new ≡ g.content old
    pub unfailed : g.fault_count new ≡ 0
    pub text : List ℕ
    pub tells : g.sound new → text
        ≡ entries_text written from (entries_from from count (g.content old).book)
    pub full : g.sound new → length (entries_from from count (g.content old).book) ≡ count
    pub wrote : Appends (contents (writer_of writer)) (contents (writer_of later)) text
    pub same : write_faults later ≡ write_faults writer
    pub flushed : (count ≡ 0) ⊎ IsFlushed later
