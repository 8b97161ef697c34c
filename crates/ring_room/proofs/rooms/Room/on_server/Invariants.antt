use Rattle.std.proofs.Common.{◌≡◌, ◌≤◌, take, count_by}
use Rattle.ring_share.specs.Crowd.{is_on, tiers_of}
use Rattle.ring_room.specs.Places.{id_at, seats_at}
use Rattle.ring_room.proofs.rooms.Room.on_server.Given as goal

-- the count of the seats so far
abbrev pub invariant-loop-other : goal.invariant-loop-other
invariant-loop-other l = record {
  counted : l.count ≡ count_by (is_on ((tiers_of l.self.devices).server
      (id_at l.self.devices l.place))) (take l.other-index (seats_at l.self.devices l.others));
  few : l.count ≤ l.other-index;
}
