use Rattle.std.proofs.Common.{◌≡◌, ◌-◌, ◌≤◌, length, take}
use Rattle.std.specs.Io.KnownBytes.{Consumes}
use Rattle.timed_streams.proofs.within.fill_within.Given as goal

abbrev pub invariant-loop-at : goal.invariant-loop-at
invariant-loop-at g l = record {
  within : l.at ≤ length l.room;
  same : length l.room ≡ length l.initial.room;
  came : Consumes (g.S.Read.remaining l.initial.stream) (g.S.Read.remaining l.stream)
      (take l.at l.room);
}

abbrev pub decreases-loop-at : goal.decreases-loop-at
decreases-loop-at g l = length l.initial.room - l.at
