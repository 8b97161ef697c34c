-- The seats of a ring that had none before stand apart.
use Rattle.std.proofs.Common.{◌≡◌, ◌+◌, ◌*◌, ◌<◌, ◌≤◌, ℕ, true, not, List, [], count_by, length, get_or}
use Rattle.std.proofs.Common.{Option, Some, None, sym, ap, ◌∙◌, arith, slice_get, nat_le}
use Rattle.std.specs.Prelude.{nat_lt}
use Rattle.std.specs.List.{flat_map, list_all}
use Rattle.std.proofs.lemmas.Bool.{and_parts}
use Rattle.std.proofs.lemmas.Bool.Decides.{nat_tests}
use Rattle.std.proofs.lemmas.List.{nil_from_length}
use Rattle.std.proofs.lemmas.Option.{get_or_from_slice_get, same_Some, slice_get_within}
use Rattle.ring_model.specs.Ring.{RingRecord, is_assigned, partition_count, seat}
use Rattle.ring_model.specs.Valid.{IsValid}
use Rattle.ring_share.specs.Crowd.{rows_of}
use Rattle.ring_share.specs.Room.{place_of}
use Rattle.ring_share.specs.Want.{is_open}
use Rattle.ring_share.proofs.Determined.{same_wants}
use Rattle.ring_room.specs.Rows.{devices_on}
use Rattle.ring_deal.specs.Deal.{dealt_seats}
use Rattle.ring_deal.specs.Draws.{draws_of}
use Rattle.ring_deal.specs.Order.{share_tier}
use Rattle.ring_deal.proofs.AllDealt.{all_dealt}
use Rattle.ring_deal.proofs.Apart.AllApart.{all_apart}
use Rattle.ring_place.specs.First.{IsFirstApart}
use Rattle.ring_place.specs.Inner.Finishing.{AreWhole}
use Rattle.ring_place.specs.Made.{rebalanced_rows, row_at}
use Rattle.ring_place.specs.Rebalance.{IsSeat}
use Rattle.ring_place.specs.Seeded.{IsSeeded}
use Rattle.ring_place.proofs.Finishing.DealtRing.{whole}
use Rattle.ring_place.proofs.Finishing.DealtSeats.{can_deal}
use Rattle.ring_place.proofs.Finishing.FinishedRing.{AreFull, get_flat, get_full}
use Rattle.ring_place.proofs.Rows.IndexRanges.{count_same, range_get}
use Rattle.ring_place.proofs.Rows.RingSeats.{row_at-rows_of}
use Rattle.ring_place.proofs.Seeded.{rebalanced_dealt}

nothing : (n : ℕ) → not (nat_lt 0 n) ≡ true → n ≡ 0
nothing n h = grind (arith, nat_tests)

module _ (ring : RingRecord) (rows : List (List (Option ℕ))) (are : AreWhole ring rows) where
  none_empty : (p : ℕ) → p < partition_count ring → (k : ℕ) → slice_get (row_at rows p) k ≡ Some None → ⊥
  none_empty p lt k at =
      let within = slice_get_within (row_at rows p) k None at in
      let there = are.taken p k (record {
        partition_there = lt;
        replica_there = (let long = are.long p lt in omega (arith, within, long));
      }) in
      let e = there.1 in cc (at, e)

  are_full : AreFull ring.replicas rows
  are_full = record {
    long = λ p lt. are.long p (let count = are.as_many in omega (arith, lt, count));
    full = λ p lt. none_empty p (let count = are.as_many in omega (arith, lt, count));
  }

  -- what the rows have stands on the seats of a list of all of them
  flat_seat : (p r id : ℕ) → IsSeat ring p r → slice_get (row_at rows p) r ≡ Some (Some id) →
      slice_get (flat_map devices_on rows) (p * ring.replicas + r) ≡ Some id
  flat_seat p r id s at = get_flat ring.replicas rows are_full p r (let lt = s.partition_there in
      let count = are.as_many in omega (arith, lt, count)) s.replica_there
      ∙ get_full (row_at rows p) (none_empty p s.partition_there) r id at

pub first_apart : (old new : RingRecord) (hour seed : ℕ) → IsValid old →
    old.replicas ≤ count_by is_open old.devices → IsSeeded old hour seed new → IsFirstApart old new
first_apart old new hour seed valid many seeded wanted are dealt tier place partition most here lt fits =
    let ss = dealt_seats old.devices wanted old.power old.replicas (draws_of seed) in
    let full : RingRecord = record old { seats = ss } in
    let both = and_parts (not (is_assigned old)) (list_all (λ want. nat_le want (partition_count old)) wanted)
    dealt in
    let empty : old.seats ≡ [] = nil_from_length old.seats (nothing (length old.seats) both.0) in
    let can = can_deal old valid wanted are both.1 many in
    let are_dealt = all_dealt old.devices wanted old.power old.replicas can (draws_of seed) in
    let are_whole = whole old valid wanted ss are empty are_dealt in
    let seats : new.seats ≡ flat_map devices_on (rows_of full) =
    ap (λ (r : RingRecord). r.seats) seeded.is
    ∙ ap (λ w. flat_map devices_on (rebalanced_rows old w hour seed)) (same_wants old seeded.wanted wanted
    seeded.are are)
    ∙ ap (flat_map devices_on) (sym (rebalanced_dealt old wanted hour seed dealt)) in
    let same : (r : ℕ) → r < old.replicas → get_or new.seats (partition * old.replicas + r) 0 ≡
    get_or ss (partition * old.replicas + r) 0 = λ r below.
    (let s : IsSeat old partition r = record { partition_there = lt; replica_there = below } in
    let there = are_whole.taken partition r s in
    let on : slice_get ss (partition * old.replicas + r) ≡ Some there.0 =
    same_Some (seat full partition r) (Some there.0)
    (sym (range_get (λ replica. seat full partition replica) old.replicas r below)
    ∙ ap (λ row. slice_get row r) (sym (row_at-rows_of full partition lt)) ∙ there.1) in
    ap (λ xs. get_or xs (partition * old.replicas + r) 0) seats
    ∙ get_or_from_slice_get (flat_map devices_on (rows_of full)) (partition * old.replicas + r) there.0 0
    (flat_seat old (rows_of full) are_whole partition r there.0 s there.1)
    ∙ sym (get_or_from_slice_get ss (partition * old.replicas + r) there.0 0 on)) in
    let count = count_same
    (λ r. share_tier tier old.devices place (place_of (get_or new.seats (partition * old.replicas + r) 0) old.devices))
    (λ r. share_tier tier old.devices place (place_of (get_or ss (partition * old.replicas + r) 0) old.devices))
    old.replicas (λ r below. ap (λ id. share_tier tier old.devices place (place_of id old.devices)) (same r below)) in
    let few = all_apart old.devices wanted old.power old.replicas can (draws_of seed) tier place partition
    most here lt fits in
    omega (arith, count, few)
