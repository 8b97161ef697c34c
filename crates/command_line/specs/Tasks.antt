-- What the words of the command line ask for.
use Rattle.std.specs.Prelude.{◌≡◌, ⊤, ℕ, Bool, true, false, List, [], Option, Some, None, MatchOption}
use Rattle.std.specs.Prelude.{codes, map, option_map}
use Rattle.ring_words.specs.Limits.{greatest_long, greatest_short}
use Rattle.std.specs.Prelude.{unwrap_or}
use Rattle.std.specs.Borrow.{Bor}
use Rattle.clap.specs.Faults.{fault_of}
use Rattle.clap.specs.Simple.{subcommand_of}
use Rattle.clap.specs.Walk.{Row, Text, all_of, first_of}
use Rattle.std.specs.Str.{bytes_eq}
use Rattle.ring_words.specs.Spelling.{SpellsNumber}
use Rattle.command_line.specs.Shapes.{programs}
use Rattle.command_line.specs.declared.task.ArgsFault.{ArgsFault}
use Rattle.command_line.specs.declared.task.ArgsFault.TheVariants.{Bad, NoMemory}
use Rattle.ring_reads.specs.Reads.{plain_word}
use Rattle.ring_reads.specs.declared.plain.Plain.{Plain}
use Rattle.ring_reads.specs.declared.reads.Format.{Format}
use Rattle.ring_reads.specs.declared.reads.Format.TheVariants as format
use Rattle.path_lookup.specs.declared.hash.HashNames.{HashNames}
use Rattle.command_line.specs.declared.task.Shown.{Shown}
use Rattle.command_line.specs.declared.task.Shown.TheVariants as shown
use Rattle.command_line.specs.declared.task.Task.{Task}
use Rattle.command_line.specs.declared.task.Task.TheVariants.{Run, Serve, Service, Loop, Import}
use Rattle.command_line.specs.declared.task.Task.TheVariants.{Table, Show, Log, Nodes, Export, Renew}
use Rattle.command_line.specs.declared.task.Task.TheVariants.{Found, Version}

-- ---- one argument

-- An argument has this text.
abbrev pub HasText : List Row → Text → Bor Text → Type 0
HasText rows id text = first_of id rows ≡ Some text.now

-- An argument has this text, or isn't there.
abbrev pub MayHaveText : List Row → Text → Option (Bor Text) → Type 0
MayHaveText rows id text = first_of id rows ≡ option_map (λ t. t.now) text

-- An argument spells this number, which is within these bounds.
abbrev pub HasNumber : List Row → Text → ℕ → ℕ → ℕ → Type 0
HasNumber rows id least most n =
    (text : Text) × (first_of id rows ≡ Some text) × SpellsNumber text least most n

-- The clock is told to tell this hour always, or is told nothing.
abbrev pub HasHour : List Row → Option ℕ → Type 0
HasHour rows hour = MatchOption hour (first_of (codes "hour") rows ≡ None)
    (λ h. HasNumber rows (codes "hour") 0 greatest_long h)

-- An argument has these texts, one for each time that it is there.
abbrev pub HasTexts : List Row → Text → List (Bor Text) → Type 0
HasTexts rows id texts = map (λ t. t.now) texts ≡ unwrap_or (all_of id rows) []

-- whether an argument without a text is there
abbrev pub is_flagged : List Row → Text → Bool
is_flagged rows id = bytes_eq (unwrap_or (first_of id rows) []) (codes "true")

-- What is hashed before and after each path is this, and nothing where it isn't there.
pub record HaveNames (rows : List Row) (names : HashNames) : Type 0 where
  pub prefix : names.prefix.now ≡ unwrap_or (first_of (codes "prefix") rows) []
  pub suffix : names.suffix.now ≡ unwrap_or (first_of (codes "suffix") rows) []

-- the word of a format
abbrev pub format_word : Format → Text
format_word format.Text = codes "text"
format_word format.Swift = codes "swift"

-- The format is named by its word, and is text where it isn't named.
abbrev pub HasFormat : List Row → Format → Type 0
HasFormat rows written =
    unwrap_or (first_of (codes "format") rows) (codes "text") ≡ format_word written

-- A plain read of a ring is named by its word, and is the whole ring where it isn't named.
abbrev pub HasPlain : List Row → Plain → Type 0
HasPlain rows what = unwrap_or (first_of (codes "WORD") rows) (codes "ring") ≡ plain_word what

-- What is to be shown is named so: a plain read of a ring by its name and perhaps a word, the status
-- by `--status` alone, the metrics by `--metrics` alone, the rings by none of these, a preview by the
-- ring's name, a seed and perhaps an hour, and what moved by the ring's name and two versions, each
-- seat by `--each`.
abbrev pub HasShown : List Row → Shown → Type 0
HasShown rows shown.Rings = (first_of (codes "RING") rows ≡ None)
    × (is_flagged rows (codes "status") ≡ false) × (is_flagged rows (codes "metrics") ≡ false)
HasShown rows shown.Status = (first_of (codes "RING") rows ≡ None)
    × (is_flagged rows (codes "status") ≡ true) × (is_flagged rows (codes "metrics") ≡ false)
HasShown rows shown.Metrics = (first_of (codes "RING") rows ≡ None)
    × (is_flagged rows (codes "status") ≡ false) × (is_flagged rows (codes "metrics") ≡ true)
HasShown rows (shown.Ring ring what) = HasText rows (codes "RING") ring
    × (is_flagged rows (codes "status") ≡ false) × (is_flagged rows (codes "metrics") ≡ false)
    × HasPlain rows what
HasShown rows (shown.Preview ring seed hour) = HasText rows (codes "RING") ring
    × HasNumber rows (codes "seed") 0 greatest_long seed × HasHour rows hour
HasShown rows (shown.Moves ring from to each) = HasText rows (codes "RING") ring
    × HasText rows (codes "FROM") from × HasText rows (codes "TO") to
    × (each ≡ is_flagged rows (codes "each"))

-- the name of the program that shows it
abbrev pub shown_program : Shown → Text
shown_program shown.Rings = codes "show"
shown_program shown.Status = codes "show"
shown_program shown.Metrics = codes "show"
shown_program (shown.Ring ring what) = codes "show"
shown_program (shown.Preview ring seed hour) = codes "preview"
shown_program (shown.Moves ring from to each) = codes "moves"

-- ---- the task

-- the name of a task's program
abbrev pub program_of : Task → Text
program_of (Run file) = codes "run"
program_of (Serve file port count hour names) = codes "serve"
program_of (Service file port hosts hour_ok names) = codes "service"
program_of (Loop file input hour names) = codes "loop"
program_of (Import file ring caller number csv hour) = codes "import"
program_of (Table file ring) = codes "table"
program_of (Show file what) = shown_program what
program_of (Log file from lines) = codes "log"
program_of (Nodes file ring account container object names) = codes "nodes"
program_of (Export file ring version written) = codes "export"
program_of (Renew file fresh) = codes "renew"
program_of (Found fresh texts min_hours hour from) = codes "found"
program_of Version = codes "version"

-- The arguments of a program are those of the task.
abbrev pub HasArguments : List Row → Task → Type 0
HasArguments rows (Run file) = MayHaveText rows (codes "file") file
HasArguments rows (Serve file port count hour names) =
    HasText rows (codes "FILE") file × HasNumber rows (codes "PORT") 1 greatest_short port
    × HasNumber rows (codes "COUNT") 0 greatest_short count × HasHour rows hour
    × HaveNames rows names
HasArguments rows (Service file port hosts hour_ok names) =
    HasText rows (codes "FILE") file × HasNumber rows (codes "PORT") 1 greatest_short port
    × HasTexts rows (codes "host") hosts.items × (hour_ok ≡ is_flagged rows (codes "hour-ok"))
    × HaveNames rows names
HasArguments rows (Loop file input hour names) =
    HasText rows (codes "FILE") file × HasText rows (codes "INPUT") input
    × HasHour rows hour × HaveNames rows names
HasArguments rows (Import file ring caller number csv hour) =
    HasText rows (codes "FILE") file × HasText rows (codes "RING") ring
    × HasText rows (codes "CALLER") caller × HasText rows (codes "NUMBER") number
    × HasText rows (codes "CSV") csv × HasHour rows hour
HasArguments rows (Table file ring) =
    HasText rows (codes "FILE") file × HasText rows (codes "RING") ring
HasArguments rows (Show file what) = HasText rows (codes "FILE") file × HasShown rows what
HasArguments rows (Log file from lines) = HasText rows (codes "FILE") file
    × MayHaveText rows (codes "from") from × (lines ≡ is_flagged rows (codes "lines"))
HasArguments rows (Nodes file ring account container object names) =
    HasText rows (codes "FILE") file × HasText rows (codes "RING") ring
    × HasText rows (codes "ACCOUNT") account × MayHaveText rows (codes "container") container
    × MayHaveText rows (codes "object") object × HaveNames rows names
HasArguments rows (Export file ring version written) =
    HasText rows (codes "FILE") file × HasText rows (codes "RING") ring
    × HasText rows (codes "VERSION") version × HasFormat rows written
HasArguments rows (Renew file fresh) =
    HasText rows (codes "FILE") file × HasText rows (codes "NEW") fresh
HasArguments rows (Found fresh texts min_hours hour from) =
    HasText rows (codes "NEW") fresh × HasTexts rows (codes "TEXT") texts.items
    × HasNumber rows (codes "min-hours") 0 greatest_short min_hours × HasHour rows hour
    × MayHaveText rows (codes "from") from
HasArguments rows Version = ⊤

-- The words, of which the first is the program's own name, ask for this task: nothing is wrong with
-- them, they name its program, and each of its arguments is there as they say.
pub record AskFor (words : List Text) (task : Task) : Type 0 where
  pub right : fault_of programs words ≡ []
  pub rows : List Row
  pub named : subcommand_of programs words ≡ Some (program_of task, rows)
  pub arguments : HasArguments rows task

-- The words ask for no task.
abbrev pub AskForNothing : List Text → Type 0
AskForNothing words = (task : Task) → AskFor words task → ⊥

-- This holds where words are bad.
abbrev pub IfBad : ArgsFault → Type 0 → Type 0
IfBad (Bad _) Holds = Holds
IfBad NoMemory Holds = Unit {0}
