-- What fails of what was read of the words of a task.
use Rattle.std.specs.Prelude.{◌≡◌, ◌⊎◌, ℕ, List, Err, Ok, Option, Result}
use Rattle.byte_streams.specs.declared.counted.CountedWriter.{CountedWriter}
use Rattle.ring_book.specs.Book.{Keeping}
use Rattle.ring_reads.specs.declared.reads.Question.{Question}
use Rattle.program_stores.specs.Stores.{Closing}
use Rattle.programs.specs.Begun.{OpensNone, OpensOne}
use Rattle.programs.specs.Performed.{FailsToImportFile, FailsToShowStore}
use Rattle.program_stores.specs.declared.faults.ProgramFault.{ProgramFault}
use Rattle.programs.specs.declared.importing.ImportAsk.{ImportAsk}

-- Keepers of stores are these, begin so, and end so with what closing them answers, and the writer is
-- this, before and after. Of stores this many were opened or made before and after.
module _ {K W : Type 0} (stores : Keeping K) (Begins : K → Type 0) (Ends : K → Closing → Type 0)
    (contents : W → Option (List ℕ)) (writer later : CountedWriter W) (before after : ℕ) where
  -- The words were not of their form, for this fault, the writer wasn't touched, and no store was
  -- opened or made.
  abbrev pub IsUnasked : {A : Type 0} → Result A ProgramFault → ProgramFault → Type 0
  IsUnasked asked why = (asked ≡ Err why) × (later ≡ writer) × OpensNone before after

  -- So it was, or showing what they ask for failed, and one store was opened.
  abbrev pub FailsToShowAsked : (ProgramFault → Type 0) → List ℕ → List ℕ
      → Result Question ProgramFault → ProgramFault → Type 0
  FailsToShowAsked Refuses prefix suffix asked why = IsUnasked asked why
      ⊎ (FailsToShowStore stores Begins Ends contents writer later Refuses prefix suffix
      (λ question. asked ≡ Ok question) why × OpensOne before after)

  -- So it was, or the import that they ask for failed.
  abbrev pub FailsToImportAsked : (List ℕ → Type 0) → (ℕ → ProgramFault → Type 0)
      → (ProgramFault → Type 0) → Result ImportAsk ProgramFault → Option ℕ → ProgramFault → Type 0
  FailsToImportAsked Holds IsUnread Refuses asked given why = IsUnasked asked why
      ⊎ FailsToImportFile stores Begins Ends contents writer later Holds IsUnread before after Refuses
      (λ ask. asked ≡ Ok ask) given why
