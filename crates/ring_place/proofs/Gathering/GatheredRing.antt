-- What the passes leave of a ring.
use Rattle.std.proofs.Common.{◌≡◌, ℕ, ◌<◌, Bool, true, false, List, length, get_or, map, Option}
use Rattle.std.proofs.Common.{None, sym, ap, subst, ◌∙◌, arith, refl}
use Rattle.std.specs.Prelude.{slice_index_or}
use Rattle.std.specs.List.{range_with_len}
use Rattle.std.specs.List.Sorted.{IsPermutation}
use Rattle.std.proofs.lemmas.List.{get_or-map}
use Rattle.ring_model.specs.Ring.{RingRecord, has_device, partition_count}
use Rattle.ring_model.specs.Valid.{IsValid}
use Rattle.ring_share.specs.Crowd.{row_of, rows_of}
use Rattle.ring_share.specs.Room.{have}
use Rattle.ring_share.specs.Want.{AreWanted}
use Rattle.ring_room.specs.Load.{Load, have_in}
use Rattle.ring_place.specs.Rebalance.{AreReasons, IsWhole, is_locked, is_recent}
use Rattle.ring_place.specs.Made.{row_at}
use Rattle.ring_place.specs.declared.gather.Pass.TheVariants.{First, Second}
use Rattle.ring_place.specs.Inner.Gathering.{IsFilled, IsFirst, IsGathered, IsPass, gathered_in}
use Rattle.ring_place.proofs.Gathering.BothPasses.{IsBoth, both_here}
use Rattle.ring_place.proofs.Gathering.GatheredRows.{counts_are_kept, gathering_is_lawful}
use Rattle.ring_place.proofs.Gathering.GatheredRows.{gathering_is_whole, reasons_hold}
use Rattle.ring_place.proofs.Gathering.GatheredRows.{rows_are_kept}
use Rattle.ring_deal.proofs.Orders.{order_all}
use Rattle.ring_place.proofs.Rows.RingSeats.{length-rows_of, row_at-rows_of, seat_known}

-- a partition's entry tells whether it is locked
pub locked_at : (ring : RingRecord) (hour : ℕ) (locked : List Bool) → IsValid ring →
    locked ≡ map (is_recent ring.min_hours hour) ring.moved → (partition : ℕ) →
    partition < partition_count ring
    → slice_index_or locked partition false ≡ is_locked ring hour partition
locked_at ring hour locked valid are partition lt =
    let count = valid.moved in
    ap (λ xs. get_or xs partition false) are ∙ get_or-map (is_recent ring.min_hours hour) ring.moved
    partition None false (omega (arith, lt, count))

-- what both passes lift of each partition
pub both_lifted : (ring : RingRecord) (hour : ℕ) (was between left : Load) (locked : List Bool)
    (order : List ℕ) (middle rows : List (List (Option ℕ))) → IsValid ring →
    locked ≡ map (is_recent ring.min_hours hour) ring.moved →
    IsPermutation (range_with_len 0 (partition_count ring)) order
    → IsPass First order was between locked (rows_of ring) middle →
    IsPass Second order was left locked middle rows
    → (partition : ℕ) → partition < partition_count ring →
    IsBoth was left (is_locked ring hour partition) (row_of ring partition) (row_at rows partition)
both_lifted ring hour was between left locked order middle rows valid locks_are each first second
    partition lt =
    let whole = order_all (partition_count ring) order each partition lt in
    let one = subst (λ r. IsFirst was (slice_index_or locked partition false) r
    (row_at middle partition)) (row_at-rows_of ring partition lt) (first.lifted partition whole)
    in
    subst (λ b. IsBoth was left b (row_of ring partition) (row_at rows partition))
    (locked_at ring hour locked valid locks_are partition lt)
    (both_here was left (slice_index_or locked partition false) (row_of ring partition)
    (row_at middle partition) (row_at rows partition)
    (λ id. rw (second.filled.devices_are, second.filled.wanted_are) refl) one
    (second.lifted partition whole))

pub is_gathered : (ring : RingRecord) (hour : ℕ) (was between left : Load) (wanted : List ℕ)
    (locked : List Bool) (order : List ℕ) (middle rows : List (List (Option ℕ)))
    → IsValid ring → AreWanted ring wanted → was.devices ≡ ring.devices → was.wanted ≡ wanted →
    ((id : ℕ) → has_device id ring.devices ≡ true → have_in was id ≡ have ring id)
    → locked ≡ map (is_recent ring.min_hours hour) ring.moved →
    IsPermutation (range_with_len 0 (partition_count ring)) order
    → IsPass First order was between locked (rows_of ring) middle →
    IsPass Second order was left locked middle rows → IsGathered ring hour left rows
is_gathered ring hour was between left wanted locked order middle rows valid are devices wants
    counts locks_are each first second =
    let want : left.wanted ≡ wanted = second.filled.wanted_are ∙ wants in
    let filled : IsFilled left ring.devices wanted rows = subst (λ ds. IsFilled left ds wanted rows)
    devices (subst (λ ws. IsFilled left was.devices ws rows) wants second.filled) in
    let many : length rows ≡ partition_count ring = second.as_many ∙ first.as_many ∙ length-rows_of
    ring in
    let both = both_lifted ring hour was between left locked order middle rows valid locks_are each
    first second in
    record {
      wanted = subst (λ w. AreWanted ring w) (sym want) are;
      devices = filled.devices_are;
      load = filled.load;
      counts = counts_are_kept ring hour was left wanted rows devices wants counts filled many both;
      rows_are = rows_are_kept ring hour was left wanted rows devices wants counts filled many both;
      lawful = gathering_is_lawful ring hour was left wanted rows devices wants counts filled many
          both;
      reasons = subst (λ w. AreReasons ring w (gathered_in rows)) (sym want) (reasons_hold ring hour
          was left wanted rows devices wants counts filled many both (seat_known ring valid));
      whole = subst (λ w. IsWhole ring hour w (gathered_in rows)) (sym want)
          (gathering_is_whole ring hour was left wanted rows devices wants counts filled many both
          (seat_known ring valid));
    }
