-- What may be written on the command line of `ringd`.
use Rattle.std.specs.Prelude.{List, [], ◌∷◌, Some, codes, false, true}
use Rattle.clap.specs.Simple.{App, Shape, new_rule, new_shape}
use Rattle.clap.specs.Walk.{Rule, Text}
use Rattle.clap.specs.declared.builder.action.ArgAction.TheVariants.{Append, SetTrue}

-- An argument without a name of its own, which has to be there.
abbrev pub needed : Text → Rule
needed name = record (new_rule name) { required = true }

-- An argument without a name of its own, which has to be there and may be there several times.
abbrev pub several : Text → Rule
several name = record (needed name) { action = Some Append }

-- An argument without a name of its own, which may be there, behind those that have to be.
abbrev pub possible : Text → Rule
possible name = new_rule name

-- An argument that may be there, as `--name TEXT`.
abbrev pub optional : Text → Rule
optional name = record (new_rule name) { long = Some name }

-- An argument that has to be there, as `--name TEXT`.
abbrev pub named : Text → Rule
named name = record (optional name) { required = true }

-- An argument that may be there several times, each as `--name TEXT`.
abbrev pub repeated : Text → Rule
repeated name = record (optional name) { action = Some Append }

-- An argument that may be there, as `--name`.
abbrev pub flag : Text → Rule
flag name = record (optional name) { action = Some SetTrue }

-- A program with these arguments.
abbrev pub program : Text → List Rule → Shape
program name rules = record (new_shape name) { rules = rules }

-- What is hashed before and after a path.
abbrev pub hash_names : List Rule
hash_names = optional (codes "prefix") ∷ optional (codes "suffix") ∷ []

-- ---- the programs

abbrev pub run : Shape
run = program (codes "run") (optional (codes "file") ∷ [])

-- What the clock tells, and what is hashed before and after a path.
abbrev pub service_options : List Rule
service_options = optional (codes "hour") ∷ hash_names

-- Serves connections of a port.
abbrev pub serve : Shape
serve = program (codes "serve")
    (needed (codes "FILE") ∷ needed (codes "PORT") ∷ needed (codes "COUNT") ∷ service_options)

-- Serves connections of a port until it is stopped.
abbrev pub service : Shape
service = program (codes "service")
    (needed (codes "FILE") ∷ needed (codes "PORT") ∷ repeated (codes "host") ∷
    flag (codes "hour-ok") ∷ hash_names)

-- Serves the bytes of a file.
abbrev pub looping : Shape
looping = program (codes "loop")
    (needed (codes "FILE") ∷ needed (codes "INPUT") ∷ service_options)

-- Imports the rows of a CSV file.
abbrev pub import_rows : Shape
import_rows = program (codes "import")
    (needed (codes "FILE") ∷ needed (codes "RING") ∷ needed (codes "CALLER") ∷
    needed (codes "NUMBER") ∷ needed (codes "CSV") ∷ optional (codes "hour") ∷ [])

-- Shows a ring's tables.
abbrev pub table_shape : Shape
table_shape = program (codes "table") (needed (codes "FILE") ∷ needed (codes "RING") ∷ [])

-- Shows the rings, what a word asks of one, the status, or the metrics.
abbrev pub show_shape : Shape
show_shape = program (codes "show")
    (needed (codes "FILE") ∷ possible (codes "RING") ∷ possible (codes "WORD") ∷
    flag (codes "status") ∷ flag (codes "metrics") ∷ [])

-- Shows what a rebalance would do.
abbrev pub preview_shape : Shape
preview_shape = program (codes "preview")
    (needed (codes "FILE") ∷ needed (codes "RING") ∷ named (codes "seed") ∷
    optional (codes "hour") ∷ [])

-- Shows what moved between two published versions.
abbrev pub moves_shape : Shape
moves_shape = program (codes "moves")
    (needed (codes "FILE") ∷ needed (codes "RING") ∷ needed (codes "FROM") ∷ needed (codes "TO") ∷
    flag (codes "each") ∷ [])

-- Writes the decided requests.
abbrev pub log_shape : Shape
log_shape = program (codes "log")
    (needed (codes "FILE") ∷ optional (codes "from") ∷ flag (codes "lines") ∷ [])

-- Shows the devices of a path.
abbrev pub nodes : Shape
nodes = program (codes "nodes")
    (needed (codes "FILE") ∷ needed (codes "RING") ∷ needed (codes "ACCOUNT") ∷
    optional (codes "container") ∷ optional (codes "object") ∷ hash_names)

-- Writes a published ring.
abbrev pub export : Shape
export = program (codes "export")
    (needed (codes "FILE") ∷ needed (codes "RING") ∷ needed (codes "VERSION") ∷
    optional (codes "format") ∷ [])

-- Makes a new file without numbers.
abbrev pub renew : Shape
renew = program (codes "renew") (needed (codes "FILE") ∷ needed (codes "NEW") ∷ [])

-- Makes a new file of rings as they stand.
abbrev pub found : Shape
found = program (codes "found")
    (needed (codes "NEW") ∷ several (codes "TEXT") ∷ named (codes "min-hours") ∷
    optional (codes "hour") ∷ optional (codes "from") ∷ [])

-- Tells the version.
abbrev pub version : Shape
version = program (codes "version") []

-- All that may be written: the name of a program, and its arguments.
abbrev pub programs : App
programs = record {
  top = record (new_shape (codes "ringd")) { is_leaf = false; subcommand_required = true };
  subs = run ∷ serve ∷ service ∷ looping ∷ import_rows ∷ table_shape ∷ show_shape ∷ preview_shape
      ∷ moves_shape ∷ log_shape ∷ nodes ∷ export ∷ renew ∷ found ∷ version ∷ [];
}
