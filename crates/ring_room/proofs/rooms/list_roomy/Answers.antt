use Rattle.std.proofs.Common.{◌≡◌, length, arith, rules, sym}
use Rattle.std.proofs.Common.{◌<◌, ◌+◌, ℕ, true, get_or, set, ◌∙◌, below_more}
use Rattle.std.proofs.lemmas.List.{length-set}
use Rattle.ring_room.specs.Load.{has_room_in}
use Rattle.ring_room.specs.Places.{id_at}
use Rattle.ring_room.proofs.Searching.ByName.{all_more, found_more, found_here}
use Rattle.ring_room.specs.Load.{Load}
use Rattle.ring_room.proofs.Searching.RoomyPlaces.{roomy_first}
use Rattle.ring_room.proofs.Searching.ByName.{listed_more, listed_same, none_listed_yet}
use Rattle.ring_room.proofs.rooms.list_roomy.Goals as goal
use Rattle.ring_room.proofs.rooms.list_roomy.Goals.{then-has_room_at, else-has_room_at}

pub returns-clause-roomy : goal.returns-clause-roomy
returns-clause-roomy c =
    let inv = c.loop-place.invariant in
    let load : Load = record {
      devices = c.args.devices.now;
      wanted = c.args.wanted.now;
      counts =
          c.args.counts.now;
    } in
    let all : c.loop-place.place ≡ length c.args.devices.now = omega arith in
    roomy_first load c.loop-place.places c.loop-place.count (omega (arith, inv.few, inv.long, all))
    inv.within inv.roomy (λ place lt room. inv.covered place (omega (arith, lt, all)) room)

pub loop-place-init : goal.loop-place-init
loop-place-init c =
    let load : Load = record {
      devices = c.args.devices.now;
      wanted = c.args.wanted.now;
      counts = c.args.counts.now;
    } in
    record {
      few = omega arith;
      in_order = none_listed_yet load c.args.places.now;
      long = c.requires.long;
      within = search rules;
      roomy = search rules;
      covered = search rules;
    }

pub loop-place-preserved : goal.loop-place-preserved
loop-place-preserved c =
    let load : Load = record {
      devices = c.args.devices.now;
      wanted = c.args.wanted.now;
      counts = c.args.counts.now;
    } in
    elim c.if-has_room_at.branch [
      | then-has_room_at w ↦
          let inv = c.loop-place.invariant in
          let places = c.loop-place.places in
          let count = c.loop-place.count in
          let place = c.loop-place.place in
          let room = sym w.if-has_room_at.ensures in
          let lt : count < length places = omega (arith, inv.few, inv.long, c.loop-place-test.true) in
          rw (w.places-is, w.count-is) (record {
            few = omega (arith, inv.few);
            in_order = listed_more load places count place lt inv.in_order room;
            long = length-set places count place ∙ inv.long;
            within = all_more (λ p. p < length load.devices) places count place lt inv.within c.loop-place-test.true;
            roomy = all_more (λ p. has_room_in load (id_at load.devices p) ≡ true) places count place lt inv.roomy room;
            covered = below_more (λ p. has_room_in load (id_at load.devices p) ≡ true →
                (k : ℕ) × (k < count + 1) × (get_or (set places count place) k 0 ≡ p)) place
                (λ p below is. found_more places count place p lt (inv.covered p below is))
                (λ is. found_here places count place lt);
          })
      | else-has_room_at w ↦
          let inv = c.loop-place.invariant in
          let places = c.loop-place.places in
          let count = c.loop-place.count in
          let place = c.loop-place.place in
          let full = sym w.if-has_room_at.ensures in
          rw (w.places-is, w.count-is) (record {
            few = omega (arith, inv.few);
            in_order = listed_same load places count place inv.in_order full;
            long = inv.long;
            within = inv.within;
            roomy = inv.roomy;
            covered = below_more (λ p. has_room_in load (id_at load.devices p) ≡ true →
                (k : ℕ) × (k < count) × (get_or places k 0 ≡ p)) place inv.covered
                (λ is. absurd (cc (is, full)));
          })
    ]
