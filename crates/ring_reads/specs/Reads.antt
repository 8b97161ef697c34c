-- What is read of rings, what they show, and why they hide it.
use Rattle.std.specs.Prelude.{◌≡◌, ◌<◌, ◌⊎◌, ⊤, ℕ, Bool, true, false, if◌then◌else◌, List, [], ◌∷◌}
use Rattle.std.specs.Prelude.{◌++◌, Some, None, codes, count_by, max}
use Rattle.path_lookup.specs.Names.{PathNames}
use Rattle.path_lookup.specs.Nodes.{AreNodes, partition_of, path_hash}
use Rattle.ring_metrics.specs.Metrics.{IsMetrics}
use Rattle.ring_model.specs.Ring.{RingRecord, is_assigned, published_at}
use Rattle.ring_model.specs.Rings.{ring_at}
use Rattle.ring_reads.specs.Holding.{Holding, figures_of, hour_now}
use Rattle.ring_reads.specs.LocksJson.{IsLocksJson}
use Rattle.ring_reads.specs.Nodes.{nodes_json}
use Rattle.ring_reads.specs.MovesJson.{AreMoveLines, IsMovesJson}
use Rattle.ring_reads.specs.Preview.{IsPreviewJson}
use Rattle.ring_reads.specs.RingJson.{IsRingJson}
use Rattle.ring_reads.specs.StoreJson.{rings_json, status_json}
use Rattle.ring_tables.specs.Tables.{balance_table, device_table}
use Rattle.ring_reads.specs.declared.plain.Plain.{Plain}
use Rattle.ring_reads.specs.declared.plain.Plain.TheVariants.{Devices, Balance, Ring, Locks}
use Rattle.ring_reads.specs.declared.reads.Format.TheVariants as format
use Rattle.ring_reads.specs.declared.reads.Hidden.{Hidden}
use Rattle.ring_reads.specs.declared.reads.Hidden.TheVariants.{NoRing, NotAssigned, NoVersion}
use Rattle.ring_reads.specs.declared.reads.Hidden.TheVariants.{BadText, NoMemory, TooFewDevices}
use Rattle.ring_reads.specs.declared.reads.Question.{Question}
use Rattle.ring_reads.specs.declared.reads.Question.TheVariants as question
use Rattle.ring_reads.specs.declared.reads.Read.{Read}
use Rattle.ring_reads.specs.declared.reads.Read.TheVariants as read
use Rattle.ring_share.specs.Want.{AreWanted, is_open}
use Rattle.ring_text.specs.Snapshot.{SnapshotRecord}
use Rattle.ring_text.specs.Spelling.{Spells}
use Rattle.swift_ring.specs.SwiftFile.{swift_file}

-- ---- plain reads

-- the word that asks for a plain read
abbrev pub plain_word : Plain → List ℕ
plain_word Devices = codes "devices"
plain_word Balance = codes "balance"
plain_word Ring = codes "ring"
plain_word Locks = codes "locks"

-- The text is what a plain read shows of a ring of this name at an hour.
abbrev pub IsPlainText : Plain → List ℕ → RingRecord → ℕ → List ℕ → Type 0
IsPlainText Devices name ring hour text = text ≡ device_table ring
IsPlainText Balance name ring hour text = (wants : List ℕ) × AreWanted ring wants
    × (text ≡ balance_table ring wants)
IsPlainText Ring name ring hour text = IsRingJson name ring hour text
IsPlainText Locks name ring hour text = IsLocksJson name ring hour text

-- ---- what a ring shows

-- The text is the device table of a ring, and then its balance table.
abbrev pub AreTables : RingRecord → List ℕ → Type 0
AreTables ring text = (wants : List ℕ) × AreWanted ring wants
    × (text ≡ device_table ring ++ balance_table ring wants)

-- The text tells the nodes of a path in a ring. The path is hashed between a prefix and a suffix.
abbrev pub TellsNodes : List ℕ → List ℕ → RingRecord → PathNames → List ℕ → Type 0
TellsNodes prefix suffix ring path text = (ids : List ℕ) × AreNodes ring prefix path suffix ids
    × (text ≡ nodes_json ring (partition_of (path_hash prefix path suffix) ring.power) ids)

-- The bytes are Swift's ring file of the ring that a text spells.
abbrev pub IsSwiftFileOf : List ℕ → List ℕ → Type 0
IsSwiftFileOf text bytes = (snapshot : SnapshotRecord) × Spells text snapshot
    × (bytes ≡ swift_file snapshot)

-- The text is that of no ring.
abbrev pub SpellsNoRing : List ℕ → Type 0
SpellsNoRing text = (snapshot : SnapshotRecord) → Spells text snapshot → ⊥

-- These bytes are what a ring of this name shows at an hour. A preview is of the hour that it asks
-- for, or of this one, if that is later.
abbrev pub IsShown : List ℕ → List ℕ → List ℕ → RingRecord → ℕ → Read → List ℕ → Type 0
IsShown prefix suffix name ring hour (read.Plain plain) text =
    IsPlainText plain name ring hour text
IsShown prefix suffix name ring hour read.Tables text = AreTables ring text
IsShown prefix suffix name ring hour (read.Nodes path) text =
    TellsNodes prefix suffix ring path text
IsShown prefix suffix name ring hour (read.Published version format.Text) text =
    published_at ring version ≡ Some text
IsShown prefix suffix name ring hour (read.Published version format.Swift) bytes =
    (text : List ℕ) × (published_at ring version ≡ Some text) × IsSwiftFileOf text bytes
IsShown prefix suffix name ring hour (read.Preview seed asked) text =
    IsPreviewJson name ring (max hour asked) seed text
IsShown prefix suffix name ring hour (read.Moves from to) text = IsMovesJson name ring from to text
IsShown prefix suffix name ring hour (read.EachMove from to) text = AreMoveLines ring from to text

-- What a ring shows of it is text: all but Swift's files.
abbrev pub IsTextRead : Read → Type 0
IsTextRead (read.Plain plain) = ⊤
IsTextRead read.Tables = ⊤
IsTextRead (read.Nodes path) = ⊤
IsTextRead (read.Published version format.Text) = ⊤
IsTextRead (read.Published version format.Swift) = ⊥
IsTextRead (read.Preview seed asked) = ⊤
IsTextRead (read.Moves from to) = ⊤
IsTextRead (read.EachMove from to) = ⊤

-- whether what a ring shows of it is JSON, which has no line feed at its end
abbrev pub is_json_read : Read → Bool
is_json_read (read.Plain Devices) = false
is_json_read (read.Plain Balance) = false
is_json_read (read.Plain Ring) = true
is_json_read (read.Plain Locks) = true
is_json_read read.Tables = false
is_json_read (read.Nodes path) = true
is_json_read (read.Published version written) = false
is_json_read (read.Preview seed asked) = true
is_json_read (read.Moves from to) = true
is_json_read (read.EachMove from to) = false

-- whether what a ring shows of it is a file of Swift's
abbrev pub is_file_read : Read → Bool
is_file_read (read.Plain plain) = false
is_file_read read.Tables = false
is_file_read (read.Nodes path) = false
is_file_read (read.Published version format.Text) = false
is_file_read (read.Published version format.Swift) = true
is_file_read (read.Preview seed asked) = false
is_file_read (read.Moves from to) = false
is_file_read (read.EachMove from to) = false

-- This is why a version of a ring isn't read: it isn't published, or its text is that of no ring.
-- Want of memory says nothing.
abbrev pub IsVersionUnread : RingRecord → ℕ → Hidden → Type 0
IsVersionUnread ring version NoMemory = ⊤
IsVersionUnread ring version NoVersion = published_at ring version ≡ None
IsVersionUnread ring version BadText = (text : List ℕ)
    × (published_at ring version ≡ Some text) × SpellsNoRing text
IsVersionUnread ring version _ = ⊥

-- This is why a ring doesn't show it. A text of no ring is none that the machine has published.
-- Want of memory says nothing.
abbrev pub IsHidden : RingRecord → Read → Hidden → Type 0
IsHidden ring what NoMemory = ⊤
IsHidden ring (read.Nodes path) NotAssigned = is_assigned ring ≡ false
IsHidden ring (read.Published version written) NoVersion = published_at ring version ≡ None
IsHidden ring (read.Published version format.Swift) BadText = (text : List ℕ)
    × (published_at ring version ≡ Some text) × SpellsNoRing text
IsHidden ring (read.Preview seed asked) TooFewDevices =
    count_by is_open ring.devices < ring.replicas
IsHidden ring (read.Moves from to) why =
    IsVersionUnread ring from why ⊎ IsVersionUnread ring to why
IsHidden ring (read.EachMove from to) why =
    IsVersionUnread ring from why ⊎ IsVersionUnread ring to why
IsHidden ring _ _ = ⊥

-- ---- what is shown of all that is held

-- These bytes are what is shown of a question where this is held: of a ring of a name, what that ring
-- shows at the hour that it is.
abbrev pub Shows : List ℕ → List ℕ → Holding → Question → List ℕ → Type 0
Shows prefix suffix held question.Rings text = text ≡ rings_json held.rings
Shows prefix suffix held question.Status text = text ≡ status_json held
Shows prefix suffix held question.Metrics text =
    IsMetrics (figures_of held) held.rings (hour_now held) text
Shows prefix suffix held (question.Ring name what) text = (ring : RingRecord)
    × (ring_at name held.rings ≡ Some ring)
    × IsShown prefix suffix name ring (hour_now held) what text

-- This is why nothing is shown of it: there is no ring of the name, or that one doesn't show it. The
-- rings, the status and the metrics are hidden by want of memory alone.
abbrev pub Hides : Holding → Question → Hidden → Type 0
Hides held question.Rings why = why ≡ NoMemory
Hides held question.Status why = why ≡ NoMemory
Hides held question.Metrics why = why ≡ NoMemory
Hides held (question.Ring name what) why = ((why ≡ NoRing) × (ring_at name held.rings ≡ None))
    ⊎ ((ring : RingRecord) × (ring_at name held.rings ≡ Some ring) × IsHidden ring what why)

-- What is shown of it is text: all but Swift's files.
abbrev pub IsText : Question → Type 0
IsText question.Rings = ⊤
IsText question.Status = ⊤
IsText question.Metrics = ⊤
IsText (question.Ring name what) = IsTextRead what

-- whether what is shown of it is JSON, which has no line feed at its end
abbrev pub is_json : Question → Bool
is_json question.Rings = true
is_json question.Status = true
is_json question.Metrics = false
is_json (question.Ring name what) = is_json_read what

-- whether it asks for the metrics
abbrev pub is_metrics : Question → Bool
is_metrics question.Rings = false
is_metrics question.Status = false
is_metrics question.Metrics = true
is_metrics (question.Ring name what) = false

-- whether what is shown of it is a file of Swift's, which is no text
abbrev pub is_file : Question → Bool
is_file question.Rings = false
is_file question.Status = false
is_file question.Metrics = false
is_file (question.Ring name what) = is_file_read what

-- what is written of a question of which these bytes are shown: JSON as a line, all else as it is
abbrev pub written_as : Question → List ℕ → List ℕ
written_as asked bytes = if is_json asked then bytes ++ 10 ∷ [] else bytes
