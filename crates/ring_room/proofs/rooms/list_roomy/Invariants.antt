use Rattle.std.proofs.Common.{◌≡◌, ◌<◌, ◌≤◌, ℕ, length, get_or, take, true}
use Rattle.ring_room.specs.Load.{Load, has_room_in}
use Rattle.ring_room.specs.Places.{id_at}
use Rattle.ring_room.specs.Search.{roomy_below}
use Rattle.ring_room.proofs.rooms.list_roomy.Given as goal

-- the devices so far that have room are listed, and no others
abbrev pub invariant-loop-place : goal.invariant-loop-place
invariant-loop-place l =
    let load : Load = record { devices = l.devices; wanted = l.wanted; counts = l.counts } in
    record {
      few : l.count ≤ l.place;
      in_order : take l.count l.places ≡ roomy_below load l.place;
      long : length l.places ≡ length l.devices;
      within : (k : ℕ) → k < l.count → get_or l.places k 0 < length l.devices;
      roomy : (k : ℕ) → k < l.count → has_room_in load (id_at l.devices (get_or l.places k 0)) ≡
          true;
      covered : (place : ℕ) → place < l.place → has_room_in load (id_at l.devices place) ≡ true →
          (k : ℕ) × (k < l.count) × (get_or l.places k 0 ≡ place);
    }
