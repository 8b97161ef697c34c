-- The task that words ask for, from what `clap` says of them.
use Rattle.std.proofs.Common.{◌≡◌, Bool, List, [], true, Option, Some, None, refl, sym, ap}
use Rattle.ring_words.specs.Limits.{greatest_long, greatest_short}
use Rattle.std.proofs.Common.{subst, ◌∙◌, ⊎_elim, codes, ℕ, ◌∷◌, slice_index, arith, length, Bor}
use Rattle.std.specs.Option.{option_map}
use Rattle.std.proofs.lemmas.Option.{none-some, same_Some}
use Rattle.clap.specs.Faults.{fault_of, is_simple_and_free}
use Rattle.clap.specs.Kinds.{HasKind, IsAmong, Kinds}
use Rattle.clap.specs.Matches.{subcommand_name_of}
use Rattle.clap.specs.Simple.{App, HasMatchesOf, subcommand_of, subcommand_rows_of}
use Rattle.clap.specs.Values.{kind_of}
use Rattle.clap.specs.Walk.{Row, Text, first_of}
use Rattle.clap.specs.declared.error.Error.{Error}
use Rattle.clap.specs.declared.error.kind.ErrorKind.TheVariants.{OutOfMemory}
use Rattle.clap.specs.declared.parser.matches.ArgMatches.{ArgMatches}
use Rattle.command_line.specs.Shapes.{programs}
use Rattle.command_line.specs.Tasks.{AskFor, AskForNothing, HasArguments, HasHour, HasNumber}
use Rattle.command_line.specs.Tasks.{HasPlain, HasShown, HasText, IfBad, is_flagged, program_of}
use Rattle.command_line.specs.Tasks.{shown_program}
use Rattle.ring_reads.specs.declared.plain.Plain.{Plain}
use Rattle.command_line.specs.Inner.Reading.{IsTask}
use Rattle.command_line.specs.declared.task.ArgsFault.{ArgsFault}
use Rattle.command_line.specs.declared.task.ArgsFault.TheVariants.{Bad, NoMemory}
use Rattle.command_line.specs.declared.task.Shown.{Shown}
use Rattle.command_line.specs.declared.task.Shown.TheVariants as shown
use Rattle.command_line.specs.declared.task.Task.{Task}
use Rattle.command_line.specs.declared.task.Task.TheVariants.{Run, Serve, Service, Loop, Import}
use Rattle.command_line.specs.declared.task.Task.TheVariants.{Table, Show, Log, Nodes, Export, Renew}
use Rattle.command_line.specs.declared.task.Task.TheVariants.{Found, Version}

-- words that were read have nothing wrong
pub right : (app : App) (words : List Text) → app ≡ programs →
    (is_simple_and_free app ≡ true → fault_of app words ≡ []) → fault_of programs words ≡ []
right app words is kinds =
    subst (λ (a : App). is_simple_and_free a ≡ true → fault_of a words ≡ []) is kinds refl

-- what is told of the two parts of an option is told of both
both : {A B C : Type 0} (f : A → B) (g : A → C) (o : Option A) (b : B) (x : C) →
    Some b ≡ option_map f o →
    Some x ≡ option_map (λ (p : B × C). p.1) (option_map {U = B × C} (λ (a : A). (f a, g a)) o) →
    option_map {U = B × C} (λ (a : A). (f a, g a)) o ≡ Some (b, x)
both f g None b x one two = absurd (none-some b (sym one))
both {A} {B} {C} f g (Some a) b x one two =
    let first : f a ≡ b = sym (same_Some b (f a) one) in
    let second : g a ≡ x = sym (same_Some x (g a) two) in
    let pair : B → C → B × C = λ y z. (y, z) in
    ap (λ (y : B). Some (pair y (g a))) first ∙ ap (λ (z : C). Some (pair b z)) second

-- the program that the words name, with its arguments
pub named : (app : App) (words : List Text) (m : ArgMatches) (name : Text) (rows : List Row) →
    app ≡ programs → HasMatchesOf app words m → Some name ≡ subcommand_name_of m →
    Some rows ≡ option_map (λ (p : Text × List Row). p.1) (subcommand_rows_of m) →
    subcommand_of programs words ≡ Some (name, rows)
named app words m name rows is has one two =
    let pairs = subst (λ (a : App). HasMatchesOf a words m) is has refl in
    sym pairs.1 ∙ both _ _ _ name rows one two

-- a task of this program with these arguments is what the words ask for
pub asked : (app : App) (words : List Text) (m : ArgMatches) (name : Text) (rows : List Row)
    (task : Task) → app ≡ programs → (is_simple_and_free app ≡ true → fault_of app words ≡ []) →
    HasMatchesOf app words m → Some name ≡ subcommand_name_of m →
    Some rows ≡ option_map (λ (p : Text × List Row). p.1) (subcommand_rows_of m) →
    IsTask name rows (Some task) → AskFor words task
asked app words m name rows task is kinds has one two of_task = record {
  right = right app words is kinds;
  rows = rows;
  named = named app words m name rows is has one two
      ∙ ap (λ (n : Text). Some (n, rows)) (sym of_task.0);
  arguments = of_task.1;
}

-- where no task has these arguments, the words ask for nothing
pub not_asked : (app : App) (words : List Text) (m : ArgMatches) (name : Text) (rows : List Row) →
    app ≡ programs → HasMatchesOf app words m → Some name ≡ subcommand_name_of m →
    Some rows ≡ option_map (λ (p : Text × List Row). p.1) (subcommand_rows_of m) →
    IsTask name rows None → AskForNothing words
not_asked app words m name rows is has one two no_task task asks =
    let same = same_Some (program_of task, asks.rows) (name, rows)
    (sym asks.named ∙ named app words m name rows is has one two) in
    no_task task (ap (λ (p : Text × List Row). p.0) same)
    (subst (λ (r : List Row). HasArguments r task) (ap (λ (p : Text × List Row). p.1) same)
    asks.arguments)

-- words that `clap` refuses, not for want of memory, ask for nothing
pub refused : (app : App) (words : List Text) (error : Error) → app ≡ programs →
    (is_simple_and_free app ≡ true → HasKind (fault_of app words) error) →
    (kind_of error ≡ OutOfMemory → ⊥) → AskForNothing words
refused app words error is kinds no_want task asks =
    let has : HasKind (fault_of programs words) error =
    subst (λ (a : App). is_simple_and_free a ≡ true → HasKind (fault_of a words) error) is kinds refl
    in ⊎_elim no_want (λ among. subst (λ (ks : Kinds). IsAmong (kind_of error) ks) asks.right among)
    has

pub bad_by : (fault : ArgsFault) (A B : Type 0) → (A → B) → IfBad fault A → IfBad fault B
bad_by (Bad text) A B f h = f h
bad_by NoMemory A B f h = tt

pub bad_if : (fault : ArgsFault) (A : Type 0) → A → IfBad fault A
bad_if (Bad text) A h = h
bad_if NoMemory A h = tt

-- words that begin with different letters are not the same
other_word : (first second : ℕ) (one two : List ℕ) → first ∷ one ≡ second ∷ two →
    (first ≡ second → ⊥) → ⊥
other_word first second one two same differ = differ (ap (λ (t : List ℕ). slice_index t 0) same)

-- where both a ring and the status are named, nothing is shown
pub shows_nothing : (rows : List Row) (ring : Option (Bor Text)) (name : Bor Text) (flagged : Bool)
    → option_map (λ (t : Bor Text). t.now) ring ≡ first_of (codes "RING") rows → ring ≡ Some name
    → flagged ≡ is_flagged rows (codes "status") → flagged ≡ true → (what : Shown)
    → shown_program what ≡ codes "show" → HasShown rows what → ⊥
shows_nothing rows ring name flagged text named status set what by_show has = by what by_show has
  where
    given : Some name.now ≡ first_of (codes "RING") rows
    given = subst (λ (o : Option (Bor Text)). option_map (λ (t : Bor Text). t.now) o
        ≡ first_of (codes "RING") rows) named text

    missing : first_of (codes "RING") rows ≡ None → ⊥
    missing none = absurd (none-some name.now (sym (given ∙ none)))

    by : (what : Shown) → shown_program what ≡ codes "show" → HasShown rows what → ⊥
    by shown.Rings by_show has = missing has.0
    by shown.Status by_show has = missing has.0
    by shown.Metrics by_show has = missing has.0
    by (shown.Ring other plain) by_show has = cc (set, status, has.1)
    by (shown.Preview other seed hour) by_show has =
        other_word 112 115 _ _ by_show (λ e. omega (arith, e))
    by (shown.Moves other from to each) by_show has =
        other_word 109 115 _ _ by_show (λ e. omega (arith, e))

-- and where the metrics and the status are
pub shows_no_status : (rows : List Row) (flagged : Bool)
    → is_flagged rows (codes "metrics") ≡ true → flagged ≡ is_flagged rows (codes "status")
    → flagged ≡ true → (what : Shown) → shown_program what ≡ codes "show" → HasShown rows what → ⊥
shows_no_status rows flagged metrics status set shown.Rings by_show has = cc (metrics, has.2)
shows_no_status rows flagged metrics status set shown.Status by_show has = cc (metrics, has.2)
shows_no_status rows flagged metrics status set shown.Metrics by_show has = cc (set, status, has.1)
shows_no_status rows flagged metrics status set (shown.Ring name plain) by_show has = cc (metrics, has.2)
shows_no_status rows flagged metrics status set (shown.Preview ring seed hour) by_show has =
    other_word 112 115 _ _ by_show (λ e. omega (arith, e))
shows_no_status rows flagged metrics status set (shown.Moves ring from to each) by_show has =
    other_word 109 115 _ _ by_show (λ e. omega (arith, e))

-- and where the metrics and a ring are
pub shows_no_ring : (rows : List Row) (ring : Option (Bor Text)) (name : Bor Text)
    → is_flagged rows (codes "metrics") ≡ true
    → option_map (λ (t : Bor Text). t.now) ring ≡ first_of (codes "RING") rows → ring ≡ Some name
    → (what : Shown) → shown_program what ≡ codes "show" → HasShown rows what → ⊥
shows_no_ring rows ring name metrics text named what by_show has = by what by_show has
  where
    given : Some name.now ≡ first_of (codes "RING") rows
    given = subst (λ (o : Option (Bor Text)). option_map (λ (t : Bor Text). t.now) o
        ≡ first_of (codes "RING") rows) named text

    by : (what : Shown) → shown_program what ≡ codes "show" → HasShown rows what → ⊥
    by shown.Rings by_show has = cc (metrics, has.2)
    by shown.Status by_show has = cc (metrics, has.2)
    by shown.Metrics by_show has = absurd (none-some name.now (sym (given ∙ has.0)))
    by (shown.Ring other plain) by_show has = cc (metrics, has.2)
    by (shown.Preview other seed hour) by_show has =
        other_word 112 115 _ _ by_show (λ e. omega (arith, e))
    by (shown.Moves other from to each) by_show has =
        other_word 109 115 _ _ by_show (λ e. omega (arith, e))

-- where a ring is named and a word that asks nothing of one, nothing is
pub shows_no_word : (rows : List Row) (name : Bor Text) → HasText rows (codes "RING") name →
    ((what : Plain) → HasPlain rows what → ⊥) → (what : Shown) → shown_program what ≡ codes "show" →
    HasShown rows what → ⊥
shows_no_word rows name given none shown.Rings by_show has =
    absurd (none-some name.now (sym (sym given ∙ has.0)))
shows_no_word rows name given none shown.Status by_show has =
    absurd (none-some name.now (sym (sym given ∙ has.0)))
shows_no_word rows name given none shown.Metrics by_show has =
    absurd (none-some name.now (sym (sym given ∙ has.0)))
shows_no_word rows name given none (shown.Ring ring what) by_show has = none what has.3
shows_no_word rows name given none (shown.Preview ring seed hour) by_show has =
    other_word 112 115 _ _ by_show (λ e. omega (arith, e))
shows_no_word rows name given none (shown.Moves ring from to each) by_show has =
    other_word 109 115 _ _ by_show (λ e. omega (arith, e))

-- without a seed no preview is to be shown
pub no_seed : (rows : List Row) → ((n : ℕ) → HasNumber rows (codes "seed") 0 greatest_long n → ⊥) →
    (what : Shown) → shown_program what ≡ codes "preview" → HasShown rows what → ⊥
no_seed rows none shown.Rings is has = omega (arith, ap length is)
no_seed rows none shown.Status is has = omega (arith, ap length is)
no_seed rows none shown.Metrics is has = omega (arith, ap length is)
no_seed rows none (shown.Ring name plain) is has = omega (arith, ap length is)
no_seed rows none (shown.Preview ring seed hour) is has = none seed has.1
no_seed rows none (shown.Moves ring from to each) is has =
    other_word 109 112 _ _ is (λ e. omega (arith, e))

-- what is shown is shown by none of these programs
not_serve : (what : Shown) → shown_program what ≡ codes "serve" → ⊥
not_serve shown.Rings is = omega (arith, ap length is)
not_serve shown.Status is = omega (arith, ap length is)
not_serve shown.Metrics is = omega (arith, ap length is)
not_serve (shown.Ring name plain) is = omega (arith, ap length is)
not_serve (shown.Preview ring seed hour) is = other_word 112 115 _ _ is (λ e. omega (arith, e))
not_serve (shown.Moves ring from to each) is = other_word 109 115 _ _ is (λ e. omega (arith, e))

not_service : (what : Shown) → shown_program what ≡ codes "service" → ⊥
not_service shown.Rings is = omega (arith, ap length is)
not_service shown.Status is = omega (arith, ap length is)
not_service shown.Metrics is = omega (arith, ap length is)
not_service (shown.Ring name plain) is = omega (arith, ap length is)
not_service (shown.Preview ring seed hour) is = other_word 112 115 _ _ is (λ e. omega (arith, e))
not_service (shown.Moves ring from to each) is = other_word 109 115 _ _ is (λ e. omega (arith, e))

not_found : (what : Shown) → shown_program what ≡ codes "found" → ⊥
not_found shown.Rings is = other_word 115 102 _ _ is (λ e. omega (arith, e))
not_found shown.Status is = other_word 115 102 _ _ is (λ e. omega (arith, e))
not_found shown.Metrics is = other_word 115 102 _ _ is (λ e. omega (arith, e))
not_found (shown.Ring name plain) is = other_word 115 102 _ _ is (λ e. omega (arith, e))
not_found (shown.Preview ring seed hour) is = other_word 112 102 _ _ is (λ e. omega (arith, e))
not_found (shown.Moves ring from to each) is = other_word 109 102 _ _ is (λ e. omega (arith, e))

-- where a service has no port or no count, no task is one
pub no_service : (rows : List Row) →
    ((port count : ℕ) → HasNumber rows (codes "PORT") 1 greatest_short port →
    HasNumber rows (codes "COUNT") 0 greatest_short count → ⊥) → IsTask (codes "serve") rows None
no_service rows none (Serve file port count hour names) is_named (file_is, port_is, count_is, hour_is, names_are) =
    none port count port_is count_is
no_service rows none (Service file port hosts hour_ok names) is_named has =
    absurd (omega (arith, ap length is_named))
no_service rows none (Run file) is_named has =
    other_word 114 115 _ _ is_named (λ e. omega (arith, e))
no_service rows none (Loop file input hour names) is_named has =
    other_word 108 115 _ _ is_named (λ e. omega (arith, e))
no_service rows none (Import file ring caller number csv hour) is_named has =
    other_word 105 115 _ _ is_named (λ e. omega (arith, e))
no_service rows none (Show file what) is_named has = not_serve what is_named
no_service rows none (Table file ring) is_named has =
    other_word 116 115 _ _ is_named (λ e. omega (arith, e))
no_service rows none (Log file from lines) is_named has =
    other_word 108 115 _ _ is_named (λ e. omega (arith, e))
no_service rows none (Nodes file ring account container object names) is_named has =
    other_word 110 115 _ _ is_named (λ e. omega (arith, e))
no_service rows none (Export file ring version written) is_named has =
    other_word 101 115 _ _ is_named (λ e. omega (arith, e))
no_service rows none (Renew file fresh) is_named has =
    other_word 114 115 _ _ is_named (λ e. omega (arith, e))
no_service rows none (Found fresh texts min_hours hour from) is_named has =
    other_word 102 115 _ _ is_named (λ e. omega (arith, e))
no_service rows none Version is_named has =
    other_word 118 115 _ _ is_named (λ e. omega (arith, e))

-- where a service that goes on has no port, no task is one
pub no_service_on : (rows : List Row) →
    ((file : Bor Text) (port : ℕ) → HasText rows (codes "FILE") file →
    HasNumber rows (codes "PORT") 1 greatest_short port → ⊥) → IsTask (codes "service") rows None
no_service_on rows none (Service file port hosts hour_ok names) is_named has = none file port has.0 has.1
no_service_on rows none (Serve file port count hour names) is_named has =
    absurd (omega (arith, ap length is_named))
no_service_on rows none (Run file) is_named has =
    other_word 114 115 _ _ is_named (λ e. omega (arith, e))
no_service_on rows none (Loop file input hour names) is_named has =
    other_word 108 115 _ _ is_named (λ e. omega (arith, e))
no_service_on rows none (Import file ring caller number csv hour) is_named has =
    other_word 105 115 _ _ is_named (λ e. omega (arith, e))
no_service_on rows none (Show file what) is_named has = not_service what is_named
no_service_on rows none (Table file ring) is_named has =
    other_word 116 115 _ _ is_named (λ e. omega (arith, e))
no_service_on rows none (Log file from lines) is_named has =
    other_word 108 115 _ _ is_named (λ e. omega (arith, e))
no_service_on rows none (Nodes file ring account container object names) is_named has =
    other_word 110 115 _ _ is_named (λ e. omega (arith, e))
no_service_on rows none (Export file ring version written) is_named has =
    other_word 101 115 _ _ is_named (λ e. omega (arith, e))
no_service_on rows none (Renew file fresh) is_named has =
    other_word 114 115 _ _ is_named (λ e. omega (arith, e))
no_service_on rows none (Found fresh texts min_hours hour from) is_named has =
    other_word 102 115 _ _ is_named (λ e. omega (arith, e))
no_service_on rows none Version is_named has =
    other_word 118 115 _ _ is_named (λ e. omega (arith, e))

-- where founding has no hours, no task is one
pub no_found : (rows : List Row) →
    ((min_hours : ℕ) (hour : Option ℕ) →
    HasNumber rows (codes "min-hours") 0 greatest_short min_hours → HasHour rows hour → ⊥) →
    IsTask (codes "found") rows None
no_found rows none (Found fresh texts min_hours hour from) is_named has =
    none min_hours hour has.2 has.3
no_found rows none (Run file) is_named has =
    other_word 114 102 _ _ is_named (λ e. omega (arith, e))
no_found rows none (Serve file port count hour names) is_named has =
    other_word 115 102 _ _ is_named (λ e. omega (arith, e))
no_found rows none (Service file port hosts hour_ok names) is_named has =
    other_word 115 102 _ _ is_named (λ e. omega (arith, e))
no_found rows none (Loop file input hour names) is_named has =
    other_word 108 102 _ _ is_named (λ e. omega (arith, e))
no_found rows none (Import file ring caller number csv hour) is_named has =
    other_word 105 102 _ _ is_named (λ e. omega (arith, e))
no_found rows none (Show file what) is_named has = not_found what is_named
no_found rows none (Table file ring) is_named has =
    other_word 116 102 _ _ is_named (λ e. omega (arith, e))
no_found rows none (Log file from lines) is_named has =
    other_word 108 102 _ _ is_named (λ e. omega (arith, e))
no_found rows none (Nodes file ring account container object names) is_named has =
    other_word 110 102 _ _ is_named (λ e. omega (arith, e))
no_found rows none (Export file ring version written) is_named has =
    other_word 101 102 _ _ is_named (λ e. omega (arith, e))
no_found rows none (Renew file fresh) is_named has =
    other_word 114 102 _ _ is_named (λ e. omega (arith, e))
no_found rows none Version is_named has =
    other_word 118 102 _ _ is_named (λ e. omega (arith, e))

-- where nothing is to be shown, no task shows something
pub no_show : (rows : List Row) →
    ((what : Shown) → shown_program what ≡ codes "show" → HasShown rows what → ⊥) →
    IsTask (codes "show") rows None
no_show rows none (Show file what) is_named has = none what is_named has.1
no_show rows none (Serve file port count hour names) is_named has =
    absurd (omega (arith, ap length is_named))
no_show rows none (Service file port hosts hour_ok names) is_named has =
    absurd (omega (arith, ap length is_named))
no_show rows none (Run file) is_named has =
    other_word 114 115 _ _ is_named (λ e. omega (arith, e))
no_show rows none (Loop file input hour names) is_named has =
    other_word 108 115 _ _ is_named (λ e. omega (arith, e))
no_show rows none (Import file ring caller number csv hour) is_named has =
    other_word 105 115 _ _ is_named (λ e. omega (arith, e))
no_show rows none (Table file ring) is_named has =
    other_word 116 115 _ _ is_named (λ e. omega (arith, e))
no_show rows none (Log file from lines) is_named has =
    other_word 108 115 _ _ is_named (λ e. omega (arith, e))
no_show rows none (Nodes file ring account container object names) is_named has =
    other_word 110 115 _ _ is_named (λ e. omega (arith, e))
no_show rows none (Export file ring version written) is_named has =
    other_word 101 115 _ _ is_named (λ e. omega (arith, e))
no_show rows none (Renew file fresh) is_named has =
    other_word 114 115 _ _ is_named (λ e. omega (arith, e))
no_show rows none (Found fresh texts min_hours hour from) is_named has =
    other_word 102 115 _ _ is_named (λ e. omega (arith, e))
no_show rows none Version is_named has =
    other_word 118 115 _ _ is_named (λ e. omega (arith, e))

-- the same of a preview
pub no_preview : (rows : List Row) →
    ((what : Shown) → shown_program what ≡ codes "preview" → HasShown rows what → ⊥) →
    IsTask (codes "preview") rows None
no_preview rows none (Show file what) is_named has = none what is_named has.1
no_preview rows none (Run file) is_named has =
    other_word 114 112 _ _ is_named (λ e. omega (arith, e))
no_preview rows none (Serve file port count hour names) is_named has =
    other_word 115 112 _ _ is_named (λ e. omega (arith, e))
no_preview rows none (Service file port hosts hour_ok names) is_named has =
    other_word 115 112 _ _ is_named (λ e. omega (arith, e))
no_preview rows none (Loop file input hour names) is_named has =
    other_word 108 112 _ _ is_named (λ e. omega (arith, e))
no_preview rows none (Import file ring caller number csv hour) is_named has =
    other_word 105 112 _ _ is_named (λ e. omega (arith, e))
no_preview rows none (Table file ring) is_named has =
    other_word 116 112 _ _ is_named (λ e. omega (arith, e))
no_preview rows none (Log file from lines) is_named has =
    other_word 108 112 _ _ is_named (λ e. omega (arith, e))
no_preview rows none (Nodes file ring account container object names) is_named has =
    other_word 110 112 _ _ is_named (λ e. omega (arith, e))
no_preview rows none (Export file ring version written) is_named has =
    other_word 101 112 _ _ is_named (λ e. omega (arith, e))
no_preview rows none (Renew file fresh) is_named has =
    other_word 114 112 _ _ is_named (λ e. omega (arith, e))
no_preview rows none (Found fresh texts min_hours hour from) is_named has =
    other_word 102 112 _ _ is_named (λ e. omega (arith, e))
no_preview rows none Version is_named has =
    other_word 118 112 _ _ is_named (λ e. omega (arith, e))

-- and of what moved
pub no_moves : (rows : List Row) →
    ((what : Shown) → shown_program what ≡ codes "moves" → HasShown rows what → ⊥) →
    IsTask (codes "moves") rows None
no_moves rows none (Show file what) is_named has = none what is_named has.1
no_moves rows none (Run file) is_named has =
    other_word 114 109 _ _ is_named (λ e. omega (arith, e))
no_moves rows none (Serve file port count hour names) is_named has =
    other_word 115 109 _ _ is_named (λ e. omega (arith, e))
no_moves rows none (Service file port hosts hour_ok names) is_named has =
    other_word 115 109 _ _ is_named (λ e. omega (arith, e))
no_moves rows none (Loop file input hour names) is_named has =
    other_word 108 109 _ _ is_named (λ e. omega (arith, e))
no_moves rows none (Import file ring caller number csv hour) is_named has =
    other_word 105 109 _ _ is_named (λ e. omega (arith, e))
no_moves rows none (Table file ring) is_named has =
    other_word 116 109 _ _ is_named (λ e. omega (arith, e))
no_moves rows none (Log file from lines) is_named has =
    other_word 108 109 _ _ is_named (λ e. omega (arith, e))
no_moves rows none (Nodes file ring account container object names) is_named has =
    other_word 110 109 _ _ is_named (λ e. omega (arith, e))
no_moves rows none (Export file ring version written) is_named has =
    other_word 101 109 _ _ is_named (λ e. omega (arith, e))
no_moves rows none (Renew file fresh) is_named has =
    other_word 114 109 _ _ is_named (λ e. omega (arith, e))
no_moves rows none (Found fresh texts min_hours hour from) is_named has =
    other_word 102 109 _ _ is_named (λ e. omega (arith, e))
no_moves rows none Version is_named has =
    other_word 118 109 _ _ is_named (λ e. omega (arith, e))
