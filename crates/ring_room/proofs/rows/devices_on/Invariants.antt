use Rattle.std.proofs.Common.{◌≡◌, ◌≤◌, take, length}
use Rattle.ring_words.specs.Limits.{most_replicas}
use Rattle.ring_room.specs.Rows.{devices_on}
use Rattle.ring_room.proofs.rows.devices_on.Given as goal

-- the devices of the seats so far
abbrev pub invariant-loop-seat : goal.invariant-loop-seat
invariant-loop-seat l = record {
  taken : take l.count l.ids ≡ devices_on (take l.seat-index l.row);
  few : l.count ≤ l.seat-index;
  long : length l.ids ≡ most_replicas;
}
