-- What a closed store leaves in its files.
use Rattle.std.proofs.Common.{◌≡◌, ◌∙◌, ◌≤◌, [], arith, inl, inr, refl, subst, sym, true≢false}
use Rattle.std.specs.Prelude.{◌⊎◌, IsTrue}
use Rattle.std.proofs.Math.Logic.{∥∥₁_elim, ∥∥₁_map}
use mathlib.Core.Logic.{∥∥₁_prop}
use Rattle.sqlite_disk.specs.declared.Disk as disk
use Rattle.sqlite_disk.specs.declared.Files.{Files}
use Rattle.sqlite_disk.specs.Disk.{MoreFaults}
use Rattle.sqlite_trees.specs.Tree.{Trees}
use Rattle.sqlite_trees.specs.View.{IsClean}
use Rattle.sqlite_trees.specs.declared.error.StoreError.{StoreError}
use Rattle.sqlite_trees.specs.declared.error.StoreError.TheVariants as stored
use Rattle.sqlite_wal.specs.Reads.{AreClean}
use Rattle.sqlite_wal.specs.Recovery.{Image}
use Rattle.sqlite.specs.Closing.{IsCopied}
use Rattle.sqlite.specs.Closing as kit
use Rattle.sqlite.specs.Files.{ExcusesClose, FailsToClose, HoldsDatabase, IsClosed, file_state}
use Rattle.sqlite.specs.Files.{over_files}
use Rattle.sqlite.specs.Held.{Held}
use Rattle.sqlite.specs.State.{HasCleanDisk, store_error}
use Rattle.sqlite.specs.declared.error.Error.{Error}
use Rattle.sqlite.specs.declared.error.Error.TheVariants.{SqliteFailure}
use Rattle.sqlite.specs.declared.error.ErrorCode.TheVariants.{OutOfMemory}
use Rattle.sqlite_store.specs.FileStore.{faults, recovers, view}
use Rattle.sqlite_store.specs.FileStore.{files as store_files}
use Rattle.sqlite_store.specs.declared.store.FileStore.{FileStore}
use Rattle.store_rows.specs.Stands.{RingContent}
use Rattle.builder_store.specs.Closing.{AreFilesOf, AreLeftWith, HoldsAlone, HoldsContent}
use Rattle.builder_store.specs.Closing.{IsUnclosed}
use Rattle.builder_store.specs.Inner.Codes.{content_set}
use Rattle.builder_store.specs.Keepers.{content_of_keeper}
use Rattle.builder_store.specs.Opening.{IsOpenedAs}
use Rattle.builder_store.specs.Inner.Finding.{stands_opens}
use Rattle.builder_store.specs.Standing.{StandsAlone}
use Rattle.builder_store.proofs.Keeping.{told_now}
use Rattle.builder_store.specs.declared.keeper.SqlKeeper.{SqlKeeper}

module _ (db : Trees) (content : RingContent) (stands : ∥ StandsAlone db content ∥₁) where
  holds_content : (image : Image) → ∥ HoldsDatabase image db ∥₁ → HoldsContent image content
  holds_content image held = record {
    database = ∥∥₁_elim stands ∥∥₁_prop (λ s. ∥∥₁_map held (λ h.
        (db, h, stands_opens db content s.0)));
    only = λ found from. ∥∥₁_elim stands (content_set found content) (λ s. ∥∥₁_elim held
        (content_set found content) (λ h. s.1 found
        (subst (λ t. IsOpenedAs t found) (from.holds db h) from.opens)));
  }

  holds_alone : (image : Image) → kit.HoldsAlone image db → HoldsAlone image content
  holds_alone image alone = (
    holds_content image alone.both,
    holds_content (record image { log = [] }) alone.alone,
  )

-- files to which the last commit was copied hold the content for which that stands
pub copied_left : {D : Type 0} {g : disk.Ghosts D} (conn : Held (FileStore D g))
    (files : Files D) (content : RingContent) → IsCopied conn files
    → ∥ StandsAlone (file_state conn).committed.trees content ∥₁ → AreLeftWith g files content
copied_left {g = g} conn files content copied stands = record {
  seen = holds_alone (file_state conn).committed.trees content stands _ copied.seen;
  left = λ image may. holds_alone (file_state conn).committed.trees content stands image
      (copied.left image may);
}

keeper_left : {D : Type 0} {g : disk.Ghosts D} (k : SqlKeeper (FileStore D g) over_files)
    (files : Files D) → (AreClean g files.log files.db → IsCopied k.conn files)
    → k.faults ≡ 0 → AreClean g files.log files.db → AreLeftWith g files (content_of_keeper k)
keeper_left k files closing none clean =
    let copied = closing clean in
    copied_left k.conn files (content_of_keeper k) copied
    (told_now over_files k.faults k.last.value k.conn k.rings k.count k.hour k.holds
    (record { state = k.rings; book = []; hour = k.hour }) none copied.was_clean)

-- the files of a keeper whose connection was closed hold the content that it had
pub closed_left : {D : Type 0} {g : disk.Ghosts D} (k : SqlKeeper (FileStore D g) over_files)
    (conn : Held (FileStore D g)) (files : Files D) → conn ≡ k.conn
    → (AreClean g files.log files.db → IsCopied conn files) → k.faults ≡ 0
    → AreClean g files.log files.db → AreLeftWith g files (content_of_keeper k)
closed_left {g = g} k conn files same copied = keeper_left k files
    (subst (λ c. AreClean g files.log files.db → IsCopied c files) same copied)

-- an open store that isn't closed has met a fault, or memory was wanted
excused : {D : Type 0} {g : disk.Ghosts D} (c : Held (FileStore D g)) (last : FileStore D g)
    (cause : StoreError) → IsTrue (view c.store).is_open → ExcusesClose c last cause
    → (store_error cause ≡ SqliteFailure OutOfMemory) ⊎ MoreFaults (faults c.store) (faults last)
excused c last stored.OutOfMemory is_open why = inl refl
excused c last stored.Broken is_open why = elim why [
  | inl shut ↦ absurd (true≢false (sym is_open ∙ shut))
  | inr more ↦ inr more
]
excused c last stored.Unstorable is_open why = absurd why
excused c last stored.Io is_open why = inr why
excused c last stored.Corrupt is_open why = inr why
excused c last stored.Full is_open why = inr why

unclosed_keeper : {D : Type 0} {g : disk.Ghosts D} (k : SqlKeeper (FileStore D g) over_files)
    (last : FileStore D g) (error : Error) → IsClosed k.conn last → (IsClean (view last)
    → FailsToClose k.conn last error) → k.faults ≡ 0 → IsClean (view last)
    → IsUnclosed k.conn.store last error
unclosed_keeper k last error closed failed none clean =
    let was : HasCleanDisk (file_state k.conn) = omega (arith, closed.quiet.clean, clean) in
    let why = failed clean in
    record {
      counted = closed.quiet.counts;
      cause = elim (excused k.conn last why.0 (k.tables none was).0 why.2) [
        | inl memory ↦ inl (why.1 ∙ memory)
        | inr more ↦ inr more
      ];
      named = (why.0, why.1, why.3);
      crash = closed.quiet.outcomes;
    }

-- so the store of a keeper whose connection isn't closed has
pub unclosed : {D : Type 0} {g : disk.Ghosts D} (k : SqlKeeper (FileStore D g) over_files)
    (conn : Held (FileStore D g)) (last : FileStore D g) (error : Error) → conn ≡ k.conn
    → IsClosed conn last → (IsClean (view last) → FailsToClose conn last error)
    → k.faults ≡ 0 → IsClean (view last) → IsUnclosed k.conn.store last error
unclosed k conn last error same closed failed = unclosed_keeper k last error
    (subst (λ c. IsClosed c last) same closed)
    (subst (λ c. IsClean (view last) → FailsToClose c last error) same failed)

-- the files that are given back are those of the store that was closed
pub files_of : {D : Type 0} {g : disk.Ghosts D} (store : FileStore D g) (conn : Held (FileStore D g))
    (files : Files D) → conn.store ≡ store → (last : FileStore D g)
    → store_files last ≡ (files.log, files.db) → IsClosed conn last → AreFilesOf store files
files_of store conn files same last files_are closed = record {
  last = last;
  same = files_are;
  counted = subst (λ s. faults s ≤ faults last) same closed.quiet.counts;
  crash = λ db may. subst (λ s. recovers s db) same (closed.quiet.outcomes db may);
}
