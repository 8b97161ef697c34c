-- The tasks that show something of a store.
use Rattle.std.specs.Prelude.{◌≡◌, ◌⊎◌, ⊤, ℕ, List, [], Option}
use Rattle.byte_streams.specs.declared.counted.CountedWriter.{CountedWriter}
use Rattle.command_line.specs.declared.task.Task.{Task}
use Rattle.command_line.specs.declared.task.Task.TheVariants as task
use Rattle.ring_book.specs.Book.{Keeping}
use Rattle.program_stores.specs.Stores.{Closing}
use Rattle.programs.specs.Begun.{OpensNone, OpensOne}
use Rattle.programs.specs.Performed.{FailsToShowStore, ShowsStore}
use Rattle.programs.specs.Showing.{AsksShown, HasBadWord, IsFormFault, IsPathless}
use Rattle.program_stores.specs.declared.faults.ProgramFault.{ProgramFault}

-- The task asks to be shown a ring's tables, the rings, the status, the metrics, a whole ring or
-- what a rebalance would do, where a path is held, or a published ring.
abbrev pub IsShowing : Task → Type 0
IsShowing (task.Table file ring) = ⊤
IsShowing (task.Show file what) = ⊤
IsShowing (task.Nodes file ring account container object names) = ⊤
IsShowing (task.Export file ring version written) = ⊤
IsShowing _ = ⊥

-- the name of the store of which a task shows something
abbrev pub shown_file : Task → List ℕ
shown_file (task.Table file ring) = file.now
shown_file (task.Show file what) = file.now
shown_file (task.Nodes file ring account container object names) = file.now
shown_file (task.Export file ring version written) = file.now
shown_file _ = []

-- what the path of a task is hashed behind, and before; nothing for a task without one
abbrev pub prefix_asked : Task → List ℕ
prefix_asked (task.Nodes file ring account container object names) = names.prefix.now
prefix_asked _ = []

abbrev pub suffix_asked : Task → List ℕ
suffix_asked (task.Nodes file ring account container object names) = names.suffix.now
suffix_asked _ = []

-- Keepers of stores are these, begin so, and end so with what closing them answers, and the writer is
-- this, before and after. Of stores this many were opened or made before and after.
module _ {K W : Type 0} (stores : Keeping K) (Begins : List ℕ → K → Type 0)
    (Ends : K → Closing → Type 0) (contents : W → Option (List ℕ)) (writer later : CountedWriter W)
    (before after : ℕ) where
  -- What a task asks to be shown was shown, and one store was opened.
  abbrev pub ShowsTask : Task → Type 0
  ShowsTask t = ShowsStore stores (Begins (shown_file t)) Ends contents writer later (prefix_asked t)
      (suffix_asked t) (AsksShown t)
      × OpensOne before after

  -- This fault came of the words of a task, and then the writer wasn't touched, and no store was
  -- opened; or of showing what it asks for, or of opening the store, and one store was.
  abbrev pub FailsToShowTask : (List ℕ → ProgramFault → Type 0) → Task → ProgramFault → Type 0
  FailsToShowTask Refuses t why =
      (IsFormFault (HasBadWord t) (IsPathless t) why × (later ≡ writer) × OpensNone before after)
      ⊎ (FailsToShowStore stores (Begins (shown_file t)) Ends contents writer later
      (Refuses (shown_file t)) (prefix_asked t) (suffix_asked t) (AsksShown t) why
      × OpensOne before after)
