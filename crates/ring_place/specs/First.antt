-- How the seats of a ring stand that had no device before a rebalance.
use Rattle.std.specs.Prelude.{◌≡◌, true, ℕ, List}
use Rattle.ring_model.specs.Ring.{RingRecord}
use Rattle.ring_share.specs.Want.{AreWanted}
use Rattle.ring_deal.specs.Deal.{StandApart}
use Rattle.ring_place.specs.Made.{is_dealt}

-- Where all seats of the old ring are dealt at once, no partition of the new one has more seats in a
-- region, in a zone or on a server than what the devices there want forces on it.
abbrev pub IsFirstApart : RingRecord → RingRecord → Type 0
IsFirstApart old new = (wanted : List ℕ) → AreWanted old wanted → is_dealt old wanted ≡ true →
    StandApart old.devices wanted old.power old.replicas new.seats
