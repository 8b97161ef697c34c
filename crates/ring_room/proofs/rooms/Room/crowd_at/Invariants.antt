use Rattle.std.proofs.Common.{◌≡◌, ◌≤◌, take, count_by}
use Rattle.ring_share.specs.Crowd.{is_on, tiers_of}
use Rattle.ring_room.specs.Places.{id_at, seats_at}
use Rattle.ring_room.proofs.rooms.Room.crowd_at.Given as goal

-- the counts of the seats so far
abbrev pub invariant-loop-other : goal.invariant-loop-other
invariant-loop-other l = record {
  region : l.crowd.0 ≡ count_by (is_on ((tiers_of l.self.devices).region
      (id_at l.self.devices l.place))) (take l.other-index (seats_at l.self.devices l.others));
  zone : l.crowd.1 ≡ count_by (is_on ((tiers_of l.self.devices).zone
      (id_at l.self.devices l.place))) (take l.other-index (seats_at l.self.devices l.others));
  server : l.crowd.2 ≡ count_by (is_on ((tiers_of l.self.devices).server
      (id_at l.self.devices l.place))) (take l.other-index (seats_at l.self.devices l.others));
  regions : l.crowd.0 ≤ l.other-index;
  zones : l.crowd.1 ≤ l.other-index;
  servers : l.crowd.2 ≤ l.other-index;
}
