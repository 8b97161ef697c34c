use Rattle.std.proofs.Common.{◌≡◌, ◌≤◌, ◌<◌, All, take, length}
use Rattle.ring_words.specs.Limits.{most_replicas}
use Rattle.ring_room.specs.Load.{seats_of}
use Rattle.ring_room.specs.Places.{seats_at}
use Rattle.ring_room.specs.Rows.{devices_on}
use Rattle.ring_room.proofs.rooms.Room.places_on.Given as goal

-- the places of the devices of the seats so far
abbrev pub invariant-loop-seat : goal.invariant-loop-seat
invariant-loop-seat l = record {
  taken : seats_at l.self.devices (take l.count l.places) ≡ seats_of
      (devices_on (take l.seat-index l.row));
  within : All (λ place. place < length l.self.devices) (take l.count l.places);
  few : l.count ≤ l.seat-index;
  long : length l.places ≡ most_replicas;
}
