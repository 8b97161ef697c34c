-- What the steps of an opening find and leave.
use Rattle.std.specs.Prelude.{◌≡◌, ℕ, IfErr, IfOk, IsTrue, None, OnOk, Option, Result, Some, length}
use Rattle.std.specs.declared.alloc.Global.{Global}
use Rattle.std.specs.declared.vec.Vec.{Vec}
use Rattle.sqlite_trees.specs.Tree.{Trees}
use Rattle.sqlite.specs.State.{HasCleanDisk, IsLive, State, Survives}
use Rattle.store_model.specs.Changes.{prepared}
use Rattle.store_model.specs.Contents.{Contents}
use Rattle.store_model.specs.declared.change.RowChange.{RowChange}
use Rattle.store_tables.specs.Failing.{HasFailed}
use Rattle.store_tables.specs.Store.{AreOrdered}
use Rattle.store_rows.specs.Callers.{Bounds}
use Rattle.store_rows.specs.Judging.{meta_now}
use Rattle.store_rows.specs.Stands.{RingContent}
use Rattle.builder_store.specs.Opening.{IsOpenedAs, OpensAs, Stands, TellsFault}
use Rattle.builder_store.specs.Inner.Tables.{HasTables}
use Rattle.builder_store.specs.declared.reading.Opened.{Opened}
use Rattle.builder_store.specs.declared.fault.OpenFault.{OpenFault}

-- The tables stand for the content that is found in these contents.
abbrev pub LeadsInStore : Contents → Trees → Type 0
LeadsInStore c db = (content : RingContent) × OpensAs c content × Stands db content

-- The same, and this is what is to be held of the content.
pub record LeadsTo (c : Contents) (db : Trees) (held : Opened) : Type 0 where
  pub content : RingContent
  pub opens : OpensAs c content
  pub stands : Stands db content
  pub rings : content.state ≡ held.rings
  pub count : length content.book ≡ held.count
  pub hour : content.hour ≡ held.hour
  pub callers : Bounds held.callers content.book

-- A step that finds a content in these contents and leads to the tables that stand for it. A crash
-- leaves what it could leave before, or tables that stand for that content.
pub record OpensRows (c : Contents) (old new : State) (result : Result Opened OpenFault) : Type 0
  where
    pub tables : HasCleanDisk new → OnOk result (HasTables new)
    pub found : HasCleanDisk new → IfOk result (LeadsTo c new.committed.trees)
    pub survives : Survives old new (LeadsInStore c)

-- What is written of a judged store makes it contain this: the tables that are missing, and, where
-- it is of schema 1, the rows of this one.
abbrev pub completed : Contents → ℕ → Option (Vec RowChange Global) → Contents
completed c hour None = c
completed c hour (Some changes) = prepared c changes.items (meta_now hour)

-- A step is told to have failed for the disk only where that failed or refused or gave back what is
-- no page, or where the store was shut before.
abbrev pub FailsOnlyFor : State → State → {A : Type 0} → Result A OpenFault → Type 0
FailsOnlyFor old new result = HasCleanDisk new → IfErr result (λ why. TellsFault why
    → HasFailed old new)

-- What is known of a connection that was made over a store.
pub record IsFresh (s : State) : Type 0 where
  pub is_open : IsTrue s.is_open
  pub live : IsLive s
  pub ordered : AreOrdered s.now
  pub committed : s.now ≡ s.committed

-- An opening of the old trees leads to these, and this is what is to be held of the content.
pub record IsOpenedTo (old db : Trees) (held : Opened) : Type 0 where
  pub content : RingContent
  pub opens : IsOpenedAs old content
  pub stands : Stands db content
  pub rings : content.state ≡ held.rings
  pub count : length content.book ≡ held.count
  pub hour : content.hour ≡ held.hour
  pub callers : Bounds held.callers content.book
