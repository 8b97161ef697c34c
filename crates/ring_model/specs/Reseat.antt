-- What a rebalance does to a ring.
use Rattle.std.specs.Prelude.{ℕ, List, Option}
use Rattle.ring_model.specs.Ring.{RingRecord, changed}
use Rattle.ring_words.specs.declared.device.Device.{Device}

-- the ring with these devices and seats, and with partitions that were moved at these hours
abbrev pub reseated : RingRecord → List Device → List ℕ → List (Option ℕ) → RingRecord
reseated ring devices seats moved = changed (record ring {
  devices = devices;
  seats = seats;
  moved = moved;
})
