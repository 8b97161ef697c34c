-- What reading the arguments of a program answers.
use Rattle.std.specs.Prelude.{◌≡◌, ℕ, List, Option, Some, None, codes}
use Rattle.clap.specs.Walk.{Row, Text}
use Rattle.std.specs.Borrow.{Bor}
use Rattle.ring_words.specs.Limits.{greatest_short}
use Rattle.command_line.specs.Tasks.{HasArguments, HasFormat, HasHour, HasNumber, HasPlain, HasShown}
use Rattle.command_line.specs.Tasks.{HasText, program_of, shown_program}
use Rattle.ring_reads.specs.declared.plain.Plain.{Plain}
use Rattle.ring_reads.specs.declared.reads.Format.{Format}
use Rattle.command_line.specs.declared.task.Shown.{Shown}
use Rattle.command_line.specs.declared.task.Task.{Task}

-- The task is one of this program with these arguments; there is None where no task is.
abbrev pub IsTask : Text → List Row → Option Task → Type 0
IsTask name rows (Some task) = (program_of task ≡ name) × HasArguments rows task
IsTask name rows None = (task : Task) → program_of task ≡ name → HasArguments rows task → ⊥

-- The hour is the one that the clock is to tell, if it is told one; None stands for a text that is
-- no hour.
abbrev pub IsHourWord : List Row → Option (Option ℕ) → Type 0
IsHourWord rows (Some hour) = HasHour rows hour
IsHourWord rows None = (hour : Option ℕ) → HasHour rows hour → ⊥

-- The number is the one that an argument spells within these bounds; None stands for an argument
-- that spells none.
abbrev pub IsNumberWord : List Row → Text → ℕ → ℕ → Option ℕ → Type 0
IsNumberWord rows id least most (Some n) = HasNumber rows id least most n
IsNumberWord rows id least most None = (n : ℕ) → HasNumber rows id least most n → ⊥

-- These are the file and the port that are given; None stands for arguments without one of them.
abbrev pub IsPlace : List Row → Option (Bor Text × ℕ) → Type 0
IsPlace rows (Some place) = HasText rows (codes "FILE") place.0 ×
    HasNumber rows (codes "PORT") 1 greatest_short place.1
IsPlace rows None = (file : Bor Text) (port : ℕ) → HasText rows (codes "FILE") file →
    HasNumber rows (codes "PORT") 1 greatest_short port → ⊥

-- The format is the one that is named, if one is; None stands for a word that names none.
abbrev pub IsFormat : List Row → Option Format → Type 0
IsFormat rows (Some written) = HasFormat rows written
IsFormat rows None = (written : Format) → HasFormat rows written → ⊥

-- The plain read is the one that is named; None stands for a word that names none.
abbrev pub IsPlain : List Row → Option Plain → Type 0
IsPlain rows (Some what) = HasPlain rows what
IsPlain rows None = (what : Plain) → HasPlain rows what → ⊥

-- This is to be shown by the program of this name; None stands for arguments that name nothing that
-- it shows.
abbrev pub IsToShow : Text → List Row → Option Shown → Type 0
IsToShow name rows (Some what) = (shown_program what ≡ name) × HasShown rows what
IsToShow name rows None = (what : Shown) → shown_program what ≡ name → HasShown rows what → ⊥

-- These are the hours that a moved partition stays and the hour of founding, if that is given; None
-- stands for arguments without them, or that are none.
abbrev pub AreHours : List Row → Option (ℕ × Option ℕ) → Type 0
AreHours rows (Some hours) = HasNumber rows (codes "min-hours") 0 greatest_short hours.0
    × HasHour rows hours.1
AreHours rows None = (min_hours : ℕ) (hour : Option ℕ)
    → HasNumber rows (codes "min-hours") 0 greatest_short min_hours → HasHour rows hour → ⊥
