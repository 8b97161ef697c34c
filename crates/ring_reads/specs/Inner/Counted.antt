-- Counts of the seats that a preview and what moved tell of.
use Rattle.std.specs.Prelude.{◌==◌, List}
use Rattle.std.specs.List.{zip}
use Rattle.ring_model.specs.Ring.{RingRecord}
use Rattle.ring_share.specs.Crowd.{is_on}
use Rattle.ring_reads.specs.Inner.SeatCounts.{AreSeatCounts}
use Rattle.ring_reads.specs.Moves.{stays_on}
use Rattle.ring_reads.specs.declared.moves_text.MoverCounts.{MoverCounts}
use Rattle.ring_reads.specs.declared.preview.MovingCounts.{MovingCounts}
use Rattle.ring_reads.specs.declared.seat_moves.Move.{Move}

-- They tell how many seats each device has in the old ring and in the new one, and how many stay.
pub record AreMovingCounts (old new : RingRecord) (counts : MovingCounts) : Type 0 where
  pub before : AreSeatCounts (λ id seat. seat == id) old.seats counts.before.items
  pub after : AreSeatCounts (λ id seat. seat == id) new.seats counts.after.items
  pub stay : AreSeatCounts stays_on (zip old.seats new.seats) counts.stay.items

-- They tell how many of these seats each device gave and took.
pub record AreMoverCounts (moves : List Move) (counts : MoverCounts) : Type 0 where
  pub given : AreSeatCounts (λ id move. is_on (λ other. other == id) move.from) moves
      counts.given.items
  pub taken : AreSeatCounts (λ id move. is_on (λ other. other == id) move.to) moves
      counts.taken.items
