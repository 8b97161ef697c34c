-- Files that words name beside stores.
use Rattle.std.specs.Prelude.{◌≡◌, ◌<◌, ⊤, ℕ, IfSome, List, None, Option, Some, length}
use Rattle.std.specs.declared.io.traits.Take.{Take}
use Rattle.byte_streams.specs.Counted.{counted_of, one_more, read_faults}
use Rattle.byte_streams.specs.declared.counted.WholeReader.{WholeReader}
use Rattle.program_stores.specs.declared.faults.ProgramFault.{ProgramFault}
use Rattle.program_stores.specs.declared.faults.ProgramFault.TheVariants as fault

-- The reader of a whole file has failed so often, since it was new.
abbrev pub FailedSoOften : {R : Type 0} → WholeReader R → ℕ → Type 0
FailedSoOften reader count = read_faults (counted_of reader) ≡ count

-- Files of a name are opened so, and have these bytes, where that is known.
module _ {F : Type 0} (opens : List ℕ → F → Type 0) (remaining : F → Option (List ℕ)) where
  -- A file of this name was opened, and this is so of its bytes, where they are known.
  abbrev pub IsOpenedAnd : List ℕ → (List ℕ → Type 0) → Type 0
  IsOpenedAnd name Has = (file : F) × opens name file × IfSome (remaining file) Has

  -- A file of this name was opened, its reader, which is left, never failed, and the text is all that
  -- the file has.
  abbrev pub IsTextOf : List ℕ → List ℕ → Option (WholeReader (Take F)) → Type 0
  IsTextOf name text None = ⊥
  IsTextOf name text (Some reader) = FailedSoOften reader 0 × IsOpenedAnd name (λ all. text ≡ all)

  -- No file of such a name can be opened.
  module _ (lacks : List ℕ → Type 0) where
    -- For this fault a file of this name gave no text of at most so many bytes: it couldn't be opened,
    -- exactly at NoFile; or its reader, which is left, failed once, exactly at ReadFailed; or it has more
    -- bytes, exactly at TooLong; or there was no memory.
    abbrev pub IsUnread : List ℕ → ℕ → ProgramFault → Option (WholeReader (Take F)) → Type 0
    IsUnread name most fault.NoFile None = lacks name
    IsUnread name most fault.ReadFailed (Some reader) = FailedSoOften reader (one_more 0)
        × IsOpenedAnd name (λ all. ⊤)
    IsUnread name most fault.TooLong (Some reader) = FailedSoOften reader 0
        × IsOpenedAnd name (λ all. most < length all)
    IsUnread name most fault.NoMemory (Some reader) = FailedSoOften reader 0
        × IsOpenedAnd name (λ all. ⊤)
    IsUnread name most why left = ⊥
