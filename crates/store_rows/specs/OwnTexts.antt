-- Which published texts are those of their rings.
use Rattle.std.specs.Prelude.{◌≡◌, ℕ, All, List}
use Rattle.ring_model.specs.Ring.{RingRecord}
use Rattle.ring_text.specs.Snapshot.{SnapshotRecord}
use Rattle.ring_text.specs.Spelling.{Spells}
use Rattle.store_rows.specs.RingRows.{NamedRings}

-- What the ring of this name published under a version is its own: the text of a ring of this name
-- at this version.
pub record IsOwnText (name : List ℕ) (published : ℕ × List ℕ) : Type 0 where
  pub snapshot : SnapshotRecord
  pub spelled : Spells published.1 snapshot
  pub named : snapshot.name ≡ name
  pub taken : snapshot.version ≡ published.0

-- The ring under its name has published nothing but its own texts.
abbrev pub PublishedOwn : List ℕ × RingRecord → Type 0
PublishedOwn e = All (IsOwnText e.0) e.1.published

-- So has each of these rings.
abbrev pub HavePublishedOwn : NamedRings → Type 0
HavePublishedOwn rings = All PublishedOwn rings
