-- The one ring that a rebalance at an hour gives with a seed.
use Rattle.std.specs.Prelude.{◌≡◌, ℕ, List, Option, filter, not}
use Rattle.std.specs.List.{flat_map}
use Rattle.ring_model.specs.Reseat.{reseated}
use Rattle.ring_model.specs.Ring.{RingRecord}
use Rattle.ring_share.specs.Crowd.{rows_of}
use Rattle.ring_share.specs.Want.{AreWanted}
use Rattle.ring_place.specs.Made.{stamps}
use Rattle.ring_place.specs.Made.{rebalanced_rows}
use Rattle.ring_room.specs.Rows.{devices_on}

-- the ring with these seats, by partition and then by replica, at an hour
abbrev pub finished : RingRecord → ℕ → List (List (Option ℕ)) → RingRecord
finished ring hour rows = reseated ring (filter (λ device. not device.removed) ring.devices)
    (flat_map devices_on rows) (stamps hour ring.moved (rows_of ring) rows)

-- the ring that a rebalance gives, by what the devices want
abbrev pub rebalanced : RingRecord → List ℕ → ℕ → ℕ → RingRecord
rebalanced ring wanted hour seed = finished ring hour (rebalanced_rows ring wanted hour seed)

-- The new ring is the one that a rebalance of the old one at the hour gives with the seed.
pub record IsSeeded (old : RingRecord) (hour seed : ℕ) (new : RingRecord) : Type 0 where
  pub wanted : List ℕ
  pub are : AreWanted old wanted
  pub is : new ≡ rebalanced old wanted hour seed
