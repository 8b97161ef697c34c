use Rattle.std.proofs.Common.{◌≡◌, ℕ, ◌<◌, Some, IfSome, IfNone}
use Rattle.std.specs.Prelude.{slice_get}
use Rattle.ring_place.specs.Inner.Gathering.{IsGift, MustStay}
use Rattle.ring_place.specs.Made.{gift_of}
use Rattle.ring_place.proofs.Gathering.BestSeats.{IsBestUntil}
use Rattle.ring_place.proofs.surplus.best_gift.Given as goal

-- the best of the seats so far; while there is none, none of them may leave
abbrev pub invariant-loop-replica : goal.invariant-loop-replica
invariant-loop-replica l = record {
  gift : IfSome l.best (IsGift l.pass l.was l.kept l.row);
  stay : IfNone l.best ((k : ℕ) → k < l.replica → (id : ℕ) → slice_get l.row k ≡ Some (Some id) →
      MustStay l.pass l.was l.kept l.row k id);
  best : IsBestUntil (gift_of l.pass l.was l.kept l.row) l.replica l.best;
}
