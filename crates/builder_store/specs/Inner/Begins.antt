-- What is known of a keeper that was just opened or made over a connection.
use Rattle.std.specs.Prelude.{◌≡◌, ◌⊎◌, ◌≤◌, ℕ, false}
use Rattle.sqlite_trees.specs.Tree.{Trees}
use Rattle.sqlite_trees.specs.View.{doubt}
use Rattle.sqlite_trees.specs.declared.store.Store.{Ghosts}
use Rattle.sqlite.specs.Held.{Held, state}
use Rattle.sqlite.specs.Files.{file_state, over_files}
use Rattle.sqlite.specs.Start.{FindsIn}
use Rattle.sqlite.specs.State.{HasCleanDisk}
use Rattle.sqlite_disk.specs.Disk.{MoreFaults}
use Rattle.sqlite_disk.specs.declared.Disk as disk
use Rattle.sqlite_store.specs.declared.store.FileStore.{FileStore}
use Rattle.sqlite_wal.specs.Recovery.{Image}
use Rattle.store_rows.specs.RingRows.{NamedRings}
use Rattle.builder_store.specs.Keepers.{content_of_keeper}
use Rattle.builder_store.specs.Left.{IsMadeOfConnection}
use Rattle.builder_store.specs.Making.{IsFailure, IsJudgement, rings_alone}
use Rattle.builder_store.specs.Opening.{AreDeclared, HasBadTexts, IsMadeOf, IsOpenedAs, JudgesRows}
use Rattle.builder_store.specs.Opening.{Stands, TellsFault}
use Rattle.builder_store.specs.Standing.{StandsAlone}
use Rattle.builder_store.specs.Inner.Opened.{IsFresh}
use Rattle.builder_store.specs.declared.fault.MakeFault.{MakeFault}
use Rattle.builder_store.specs.declared.fault.MakeFault.TheVariants.{Taken}
use Rattle.builder_store.specs.declared.fault.OpenFault.{OpenFault}
use Rattle.builder_store.specs.declared.fault.OpenFault.TheVariants.{BadRows, BadTables, BadTexts}
use Rattle.builder_store.specs.declared.keeper.SqlKeeper.{SqlKeeper}
use Rattle.store_rows.specs.Stands.{RingContent}

module _ {S : Type 0} (g : Ghosts S) where
  -- The connection is outside a transaction, and was just made over its store.
  pub record IsJustMade (conn : Held S) : Type 0 where
    pub mode : conn.in_transaction ≡ false
    pub fresh : HasCleanDisk (state g conn) → IsFresh (state g conn)

  -- The keeper has this connection, and the content for which its tables stand. It keeps so many
  -- requests, and its store has not failed.
  pub record IsHolding (conn : Held S) (numbers : ℕ) (k : SqlKeeper S g) : Type 0 where
    pub same : k.conn ≡ conn
    pub limit : k.limit ≡ numbers
    pub faults : k.faults ≡ 0
    pub content : (content : RingContent) → HasCleanDisk (state g k.conn)
        → StandsAlone (state g conn).committed.trees content → content_of_keeper k ≡ content

  -- The keeper has what an opening of the connection finds, and keeps so many requests.
  pub record BeginsOver (conn : Held S) (numbers : ℕ) (k : SqlKeeper S g) : Type 0 where
    pub limit : k.limit ≡ numbers
    pub faults : k.faults ≡ 0
    pub clean : doubt (state g conn).is_clean ≤ doubt (state g k.conn).is_clean
    pub found : HasCleanDisk (state g k.conn) → IsOpenedAs (state g conn).committed.trees
        (content_of_keeper k)

  -- The connection wasn't opened, for this fault, and is left so: rows are refused only where the
  -- tables stand for nothing, texts only where one is no UTF-8, and tables only where they are not
  -- declared as a store's.
  pub record IsRefused (conn : Held S) (why : OpenFault) (left : Held S) : Type 0 where
    pub clean : doubt (state g conn).is_clean ≤ doubt (state g left).is_clean
    pub rows : why ≡ BadRows → HasCleanDisk (state g left) → (content : RingContent)
        → IsOpenedAs (state g conn).committed.trees content → ⊥
    pub texts : why ≡ BadTexts → HasCleanDisk (state g left)
        → HasBadTexts (state g conn).committed.trees
    pub tables : why ≡ BadTables → HasCleanDisk (state g left) → (made : ℕ)
        → AreDeclared made (state g conn).committed.trees → ⊥
    -- The store is told to have failed or to be damaged only where its disk met a fault.
    pub failed : TellsFault why → HasCleanDisk (state g left)
        → MoreFaults (state g conn).faults (state g left).faults
    -- A crash leaves what was committed, or what the opening made of it; where the rows or their
    -- texts are refused, nothing was made.
    pub kept : JudgesRows why → HasCleanDisk (state g left) → (db : Trees)
        → (state g left).may_leave db → db ≡ (state g conn).committed.trees
    pub crash : HasCleanDisk (state g left) → (db : Trees) → (state g left).may_leave db
        → (db ≡ (state g conn).committed.trees) ⊎ IsMadeOf (state g conn).committed.trees db

  -- The keeper has these rings and no request, and keeps so many of them. Nothing was there before.
  pub record BeginsWith (conn : Held S) (rings : NamedRings) (hour numbers : ℕ) (k : SqlKeeper S g)
      : Type 0 where
    pub limit : k.limit ≡ numbers
    pub faults : k.faults ≡ 0
    pub clean : doubt (state g conn).is_clean ≤ doubt (state g k.conn).is_clean
    pub made : HasCleanDisk (state g k.conn) → content_of_keeper k ≡ rings_alone rings hour
    pub nothing : HasCleanDisk (state g k.conn) → AreDeclared 0 (state g conn).committed.trees

  -- No store was made of these rings and this hour, for this cause, and the connection is left so.
  -- It is told as taken only where something is there.
  pub record IsUnmade (conn : Held S) (rings : NamedRings) (hour : ℕ) (why : MakeFault)
      (left : Held S) : Type 0 where
    pub clean : doubt (state g conn).is_clean ≤ doubt (state g left).is_clean
    pub unjudged : IsJudgement why → ⊥
    pub of_connection : IsMadeOfConnection why
    pub taken : why ≡ Taken → HasCleanDisk (state g left)
        → AreDeclared 0 (state g conn).committed.trees → ⊥
    -- The store is told to have failed or to be damaged only where its disk met a fault.
    pub failed : IsFailure why → HasCleanDisk (state g left)
        → MoreFaults (state g conn).faults (state g left).faults
    -- A crash leaves what was committed, or what was to be made; where something is there already,
    -- it stays.
    pub stays : why ≡ Taken → HasCleanDisk (state g left) → (db : Trees)
        → (state g left).may_leave db → db ≡ (state g conn).committed.trees
    pub crash : HasCleanDisk (state g left) → (db : Trees) → (state g left).may_leave db
        → (db ≡ (state g conn).committed.trees) ⊎ Stands db (rings_alone rings hour)

-- The connection was just made over files that held this, and has the trees to which they recover.
pub record IsMadeOver {D : Type 0} {g : disk.Ghosts D} (image : Image) (conn : Held (FileStore D g))
    : Type 0 where
  pub made : IsJustMade over_files conn
  pub found : HasCleanDisk (file_state conn) → FindsIn image (file_state conn)
