-- What a read finds.
use Rattle.std.specs.Prelude.{ℕ, List, max}
use Rattle.ring_metrics.specs.declared.metrics.StoreFigures.{StoreFigures}
use Rattle.ring_model.specs.Ring.{RingRecord}
use Rattle.ring_reads.specs.declared.held.Held.{Held}

-- What is held where something is read: the rings, by rising name, the greatest hour that was
-- decided at, the hour of the clock, 0 where none is looked at, how many numbers of callers are kept,
-- and how many may be.
pub record Holding : Type 0 where
  pub rings : List (List ℕ × RingRecord)
  pub hour : ℕ
  pub clock : ℕ
  pub kept : ℕ
  pub limit : ℕ

-- what a read that is handed this finds
abbrev pub holding_of : Held → Holding
holding_of held = record {
  rings = held.rings.now;
  hour = held.hour;
  clock = held.clock;
  kept = held.kept;
  limit = held.limit;
}

-- the hour at which a request would be decided now: the greatest of the clock's and of those that were
-- decided at
abbrev pub hour_now : Holding → ℕ
hour_now held = max held.hour held.clock

-- how much is held
abbrev pub figures_of : Holding → StoreFigures
figures_of held = record { kept = held.kept; limit = held.limit; hour = held.hour }
