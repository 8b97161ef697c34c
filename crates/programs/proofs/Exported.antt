-- What was exported comes in as it was.
use Rattle.std.proofs.Common.{◌≡◌, ◌∙◌, ap, refl}
use Rattle.ring_text.proofs.Once.{one_snapshot}
use Rattle.ring_text.proofs.Text.{lines_of_text}
use Rattle.ring_text.proofs.Validity.{valid_of_ring}
use Rattle.ring_text.specs.Snapshot.{SnapshotRecord, snapshot_of}
use Rattle.ring_text.specs.Spelling.{Spells}
use Rattle.programs.specs.Founding.{ExportedComesIn}

pub comes_in : ExportedComesIn
comes_in name text old ring terms snapshot valid assigned label is spells founded =
    let whole : Spells text (snapshot_of name old) = record {
      valid = valid_of_ring name old valid assigned label;
      text = is;
    } in
    let same : snapshot ≡ snapshot_of name old = one_snapshot _ snapshot (snapshot_of name old)
    (lines_of_text text _ snapshot refl spells)
    (lines_of_text text _ (snapshot_of name old) refl whole) in (
      ap (λ (s : SnapshotRecord). s.name) same,
      founded.version ∙ ap (λ (s : SnapshotRecord). s.version) same,
      founded.power ∙ ap (λ (s : SnapshotRecord). s.power) same,
      founded.replicas ∙ ap (λ (s : SnapshotRecord). s.replicas) same,
      founded.devices ∙ ap (λ (s : SnapshotRecord). s.devices) same,
      founded.seats ∙ ap (λ (s : SnapshotRecord). s.seats) same,
    )
