-- What an opening finds in the tables, and what it makes of them.
use Rattle.std.specs.Prelude.{◌≡◌, ◌≤◌, ◌⊎◌, ℕ, [], ⊤}
use Rattle.std.specs.FinMap.{empty}
use Rattle.sqlite_trees.specs.Tree.{Trees}
use Rattle.sqlite_wal.specs.Recovery.{Image}
use Rattle.sqlite.specs.Effect.{IsDatabase}
use Rattle.sqlite.specs.Files.{AreFoundIn, HoldsDatabase}
use Rattle.store_model.specs.Contents.{Contents}
use Rattle.store_tables.specs.Contents.{contents_of}
use Rattle.store_tables.specs.Store.{begun_contents}
use Rattle.store_tables.specs.Texts.{AreTexts}
use Rattle.store_tables.specs.Tables.{schema_of_first, table_count}
use Rattle.builder_store.specs.declared.fault.FileFault.{FileFault}
use Rattle.builder_store.specs.declared.fault.FileFault.TheVariants as file
use Rattle.builder_store.specs.declared.fault.OpenFault.{OpenFault}
use Rattle.builder_store.specs.declared.fault.OpenFault.TheVariants.{BadRows, BadTables, BadTexts}
use Rattle.builder_store.specs.declared.fault.OpenFault.TheVariants.{Damaged, Store}
use Rattle.store_rows.specs.Stands.{IsHoldable, RingContent, contents_for, first_contents_for}

-- Tables without a row.
abbrev pub no_contents : Contents
no_contents = record {
  meta = empty;
  rings = empty;
  devices = empty;
  seats = empty;
  moved = empty;
  published = empty;
  requests = empty;
  parts = empty;
}

-- No ring and no request, at hour 0.
abbrev pub nothing : RingContent
nothing = record { state = []; book = []; hour = 0 }

-- Tables of this schema or of the first one that stand for this content, or tables without a row,
-- for no ring and no request.
pub record OpensAs (c : Contents) (content : RingContent) : Type 0 where
  pub holdable : IsHoldable content
  pub stands : (c ≡ contents_for content) ⊎ ((c ≡ first_contents_for content) ⊎ ((c ≡ no_contents)
      × (content ≡ nothing)))

-- The first so many tables of the store are there, declared as in the store, and nothing else.
abbrev pub AreDeclared : ℕ → Trees → Type 0
AreDeclared made db =
    (made ≤ table_count) × IsDatabase (record { schema = schema_of_first made; trees = db })

-- An opening of these trees finds this content.
abbrev pub IsOpenedAs : Trees → RingContent → Type 0
IsOpenedAs db content = (made : ℕ) × AreDeclared made db × OpensAs (begun_contents made db) content

-- These are the tables of a store that stand for this content: all of them are there, a store can
-- hold the content, and they contain what they do where it is held.
pub record Stands (db : Trees) (content : RingContent) : Type 0 where
  pub declared : AreDeclared table_count db
  pub holdable : IsHoldable content
  pub contents : contents_of db ≡ contents_for content

-- An opening of files that held this finds this content: it opens the trees that they recover to,
-- which are those of the database that they hold, if they hold one.
pub record IsOpenedFrom (image : Image) (content : RingContent) : Type 0 where
  pub trees : Trees
  pub holds : (db : Trees) → HoldsDatabase image db → trees ≡ db
  pub reads : AreFoundIn image trees
  pub opens : IsOpenedAs trees content

-- The fault tells of the disk: that it failed or refused, or gave back what is no page of a
-- database. The store counts both.
abbrev pub TellsFault : OpenFault → Type 0
TellsFault Store = ⊤
TellsFault Damaged = ⊤
TellsFault _ = ⊥

-- The fault tells this of the disk under a connection that was made over files.
abbrev pub TellsOpenFault : FileFault → Type 0
TellsOpenFault (file.Opening why) = TellsFault why
TellsOpenFault _ = ⊥

-- The fault judges what is there: it tells that its tables are none of a store, that its rows stand
-- for nothing, or that a text in them is no UTF-8.
abbrev pub JudgesTables : OpenFault → Type 0
JudgesTables BadTables = ⊤
JudgesTables BadRows = ⊤
JudgesTables BadTexts = ⊤
JudgesTables _ = ⊥

-- The fault judges what files hold: their tables, the rows in them, or the texts of these.
abbrev pub JudgesFiles : FileFault → Type 0
JudgesFiles (file.Opening why) = JudgesTables why
JudgesFiles _ = ⊥

-- The fault judges the rows of a store's tables: it tells that they stand for nothing, or that a text
-- in them is no UTF-8.
abbrev pub JudgesRows : OpenFault → Type 0
JudgesRows BadRows = ⊤
JudgesRows BadTexts = ⊤
JudgesRows _ = ⊥

-- The fault judges the rows of a store in files.
abbrev pub JudgesFileRows : FileFault → Type 0
JudgesFileRows (file.Opening why) = JudgesRows why
JudgesFileRows _ = ⊥

-- The fault tells that what files hold stands for nothing.
abbrev pub IsBadStore : FileFault → Type 0
IsBadStore (file.Opening why) = (why ≡ BadRows) ⊎ (why ≡ BadTables)
IsBadStore _ = ⊥

-- Files that held this hold no store: an opening of their database finds nothing for which it
-- stands.
abbrev pub HoldsNoStore : Image → Type 0
HoldsNoStore image = (db : Trees) → HoldsDatabase image db → (content : RingContent)
    → IsOpenedAs db content → ⊥

-- The first tables of a store are there, and a text in them is no UTF-8.
abbrev pub HasBadTexts : Trees → Type 0
HasBadTexts db = (made : ℕ) × AreDeclared made db × (AreTexts (begun_contents made db) → ⊥)

-- Files that held this hold the first tables of a store with a text that is no UTF-8: their database
-- has them, if they hold one.
abbrev pub HoldsBadTexts : Image → Type 0
HoldsBadTexts image = (db : Trees) → HoldsDatabase image db → HasBadTexts db

-- Of files that held this a crash leaves the trees to which they recover, or what was made of these.
pub record IsLeftOf (Makes : Trees → Trees → Type 0) (image : Image) (db : Trees) : Type 0 where
  pub trees : Trees
  pub holds : (old : Trees) → HoldsDatabase image old → trees ≡ old
  pub reads : AreFoundIn image trees
  pub left : (db ≡ trees) ⊎ Makes trees db

-- Files that held this hold no table: their database has none, if they hold one.
abbrev pub HoldsNoTable : Image → Type 0
HoldsNoTable image = (db : Trees) → HoldsDatabase image db → AreDeclared 0 db

-- Nor is their database one without a table.
abbrev pub HoldsTables : Image → Type 0
HoldsTables image = (db : Trees) → HoldsDatabase image db → AreDeclared 0 db → ⊥

-- What an opening makes of the old trees: the tables that stand for the content that it finds.
abbrev pub IsMadeOf : Trees → Trees → Type 0
IsMadeOf old db = (content : RingContent) × IsOpenedAs old content × Stands db content
