-- A valid ring is rebalanced to a valid one.
use Rattle.std.proofs.Common.{ℕ, ◌<◌}
use Rattle.ring_words.specs.Limits.{long_count}
use Rattle.ring_model.specs.Ring.{RingRecord}
use Rattle.ring_model.specs.Valid.{IsValid}
use Rattle.ring_place.specs.Rebalance.{IsRebalance}
use Rattle.ring_place.proofs.Lawful.{lawful}
use Rattle.ring_place.proofs.ValidAfter.{stays_valid}

pub rebalanced_valid : (old new : RingRecord) (hour : ℕ) → hour < long_count → IsValid old →
    IsRebalance old hour new → IsValid new
rebalanced_valid old new hour small valid is = stays_valid old new hour small valid
    (lawful old new hour is)
