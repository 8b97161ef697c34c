-- Raising the power of a ring: each partition becomes two.
use Rattle.std.specs.Prelude.{◌≡◌, ℕ, ◌+◌, ◌*◌, ◌<◌, length}
use Rattle.ring_model.specs.Ring.{RingRecord, seat, moved_at, risen}

-- Both halves of a partition are on its devices, and were moved when it was. All else is as it was.
pub record IsRaised (old new : RingRecord) : Type 0 where
  pub power : new.power ≡ old.power + 1
  pub version : new.version ≡ risen old.version
  pub seats : (partition replica : ℕ) → replica < old.replicas →
      (seat new (2 * partition) replica ≡ seat old partition replica) ×
      (seat new (2 * partition + 1) replica ≡ seat old partition replica)
  pub moved : (partition : ℕ) → (moved_at new (2 * partition) ≡ moved_at old partition) ×
      (moved_at new (2 * partition + 1) ≡ moved_at old partition)
  -- and there are no more seats, and no more partitions
  pub seat_count : length new.seats ≡ 2 * length old.seats
  pub moved_count : length new.moved ≡ 2 * length old.moved
  pub rest : record new {
    power = old.power;
    version = old.version;
    seats = old.seats;
    moved =
        old.moved;
  } ≡ old
