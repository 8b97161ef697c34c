-- Of the seats that go off a device because it keeps more than it wants, those go first that may go
-- to a place that is no more crowded.
use Rattle.std.specs.Prelude.{◌≡◌, ℕ, true, false, List, Some}
use Rattle.ring_model.specs.Ring.{RingRecord, seat}
use Rattle.ring_share.specs.Crowd.{crowd_for, is_less}
use Rattle.ring_place.specs.Rebalance.{Gathered, IsLeft, IsRebalance, IsSeat, has_lost, is_free}

-- For a seat each device outside its partition with room is more crowded than the device of a
-- number.
abbrev pub AreMoreCrowded : RingRecord → List ℕ → ℕ → ℕ → ℕ → Type 0
AreMoreCrowded ring wanted partition replica id = (to : ℕ) → is_free ring wanted partition to ≡ true
    → is_less (crowd_for ring partition replica id) (crowd_for ring partition replica to) ≡ true

-- Where a gathered seat of a partition without lost seats has only more crowded places to go to, no
-- partition that is left has a better seat on the same device: a seat there has only such places
-- too.
abbrev pub GivesApartFirst : RingRecord → ℕ → List ℕ → Gathered → Type 0
GivesApartFirst old hour wanted gathered = (partition replica id : ℕ) →
    IsSeat old partition replica → has_lost old partition ≡ false →
    gathered partition replica ≡ true → seat old partition replica ≡ Some id →
    AreMoreCrowded old wanted partition replica id →
    (other at : ℕ) → IsSeat old other at → IsLeft old hour gathered other →
    seat old other at ≡ Some id → AreMoreCrowded old wanted other at id

-- The new ring is the old one rebalanced at the hour, and what is gathered is gathered so.
pub record IsRebalanceApart (old : RingRecord) (hour : ℕ) (new : RingRecord) : Type 0 where
  pub is : IsRebalance old hour new
  pub apart : GivesApartFirst old hour is.wanted_before is.gathered
