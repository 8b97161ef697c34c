use Rattle.std.proofs.Common.{arith}
use Rattle.std.proofs.lemmas.Grind.{common_steps}
use Rattle.std.proofs.Common.{◌^◌, ℕ, List, Option, length, sym, ap, subst, ◌∙◌}
use Rattle.std.specs.List.{range_with_len}
use Rattle.std.specs.List.Sorted.{IsPermutation}
use Rattle.ring_share.specs.Crowd.{rows_of}
use Rattle.ring_place.specs.Inner.Placing.{AllPlaced, CanPlace}
use Rattle.ring_place.specs.Made.{is_settled, row_at}
use Rattle.ring_place.proofs.Finishing.NewRing.{is_rebalance_apart}
use Rattle.ring_place.proofs.Placing.Placeable.{left_counts, open_want, partitions_are}
use Rattle.ring_place.proofs.Placing.Placeable.{rows_few, rows_placeable, whole}
use Rattle.ring_place.proofs.Seeded.{rebalanced_moved, seeded_rows}
use Rattle.ring_place.proofs.new_seats.move_seats.Goals as goal

pub place_all-requires-clause-order : goal.place_all-requires-clause-order
place_all-requires-clause-order c =
    let valid = c.power.ensures.valid in
    let count = c.partition_count.ensures.value ∙ ap (λ (n : ℕ). 2 ^ n) c.power.ensures.value
    ∙ partitions_are c.args.ring.now c.args.hour c.in_ok-room.room c.in_ok-room.seats valid
    c.in_ok-room.ensures.gathered in
    subst (λ (order : List ℕ). IsPermutation (range_with_len 0 (length c.in_ok-room.seats)) order)
    (sym c.as_slice-2.ensures.value)
    (subst (λ (n : ℕ). IsPermutation (range_with_len 0 n) c.in_ok-order.order.items) count
    c.in_ok-order.ensures.permutation)

pub place_all-requires-clause-rows : goal.place_all-requires-clause-rows
place_all-requires-clause-rows c p lt =
    subst (λ (old : List (List (Option ℕ))). CanPlace c.in_ok-room.room.devices (row_at old p)
    (row_at c.in_ok-room.seats p)) (sym c.requires.old)
    (rows_placeable c.args.ring.now c.args.hour c.in_ok-room.room c.in_ok-room.seats
    c.power.ensures.valid c.in_ok-room.ensures.gathered p lt c.requires.open)

pub place_all-requires-clause-closed : goal.place_all-requires-clause-closed
place_all-requires-clause-closed c = open_want c.args.ring.now c.in_ok-room.room
    c.power.ensures.valid c.in_ok-room.ensures.gathered.wanted c.in_ok-room.ensures.gathered.devices

pub place_all-requires-clause-counts : goal.place_all-requires-clause-counts
place_all-requires-clause-counts c = left_counts c.args.ring.now c.args.hour c.in_ok-room.room
    c.in_ok-room.seats c.power.ensures.valid c.in_ok-room.ensures.gathered

pub place_all-requires-clause-few : goal.place_all-requires-clause-few
place_all-requires-clause-few c = rows_few c.args.ring.now c.args.hour c.in_ok-room.room
    c.in_ok-room.seats c.power.ensures.valid c.in_ok-room.ensures.gathered

pub returns : goal.returns
returns c =
    let ring = c.args.ring.now in
    let hour = c.args.hour in
    let room = c.in_ok-room.room in
    let seats = c.in_ok-room.seats in
    let valid = c.power.ensures.valid in
    let gathered = c.in_ok-room.ensures.gathered in
    let placed = subst (λ old. AllPlaced room c.place_all.new.room old seats c.place_all.new.seats)
    c.requires.old c.in_ok-place_all.ensures.placed in
    record {
      are_whole = whole ring hour room seats valid gathered c.place_all.new.room c.place_all.new.seats placed;
      apart = λ next valid_next rows after. is_rebalance_apart ring next hour room c.place_all.new.room seats
          valid valid_next gathered (subst (λ n. AllPlaced room c.place_all.new.room (rows_of ring) seats n)
          (sym rows) placed) after c.in_ok-room.ensures.apart;
      wanted = room.wanted;
      are = gathered.wanted;
      by_name = seeded_rows ring room.wanted hour c.args.seed c.as_slice.result.now c.as_slice-2.result.now
          c.in_ok-order.order.items c.shuffled_order.new.draws c.draws_of-draws.result c.partition_count.result
          room seats c.args.old.now c.place_all.new.seats
          c.in_ok-place_all.ensures.by_name c.requires.old c.as_slice-2.ensures.value c.as_slice.ensures.value
          c.in_ok-order.ensures.by_name c.draws_of-draws.ensures
          (c.partition_count.ensures.value ∙ ap (λ (n : ℕ). 2 ^ n) c.power.ensures.value)
          c.in_ok-room.ensures.by_name
          ∙ rebalanced_moved ring room.wanted hour c.args.seed (c.requires.not_dealt room.wanted gathered.wanted)
          (ap (is_settled ring) c.in_ok-room.ensures.wanted ∙ c.requires.not_settled);
    }

pub place_all-requires-clause-as_many : goal.place_all-requires-clause-as_many
place_all-requires-clause-as_many c = grind (arith, common_steps)
