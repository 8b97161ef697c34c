-- What holds of a ring that a rebalance left as it was.
use Rattle.std.proofs.Common.{◌≡◌, ◌==◌, ℕ, ◌+◌, ◌*◌, ◌^◌, ◌<◌, ◌≤◌, Bool, true, false, not, cond}
use Rattle.std.proofs.Common.{◌&&◌, ◌||◌, List, [], length, count_by, sum_by, Option, Some, None}
use Rattle.std.proofs.Common.{refl, sym, ap, subst, ◌∙◌, inl, inr, arith}
use Rattle.std.specs.Prelude.{if◌then◌else◌, nat_lt, slice_index}
use Rattle.std.specs.List.{list_any, range_with_len}
use Rattle.std.proofs.lemmas.Bool.{eq-eqb, eqb-true}
use Rattle.std.proofs.lemmas.Bool.Decides.{nat_tests}
use Rattle.std.proofs.lemmas.List.Folds.{list_any_none}
use Rattle.std.proofs.lemmas.List.FromFn.{fill_by_all, get_or-map-range_with_len}
use Rattle.std.proofs.lemmas.List.FromFn.{length-map-range_with_len}
use Rattle.std.proofs.lemmas.Nat.{pow_pos}
use Rattle.std.proofs.lemmas.Option.{same_Some, slice_get_within}
use Rattle.ring_model.specs.Ring.{RingRecord, has_present, is_assigned, moved_at, partition_count}
use Rattle.ring_model.specs.Ring.{seat}
use Rattle.ring_model.specs.Valid.{IsValid}
use Rattle.ring_words.specs.Limits.{long_count}
use Rattle.ring_words.specs.declared.device.Device.{Device}
use Rattle.ring_share.specs.Crowd.{crowd, crowd_for, is_less, is_on, is_outside, others, row_of}
use Rattle.ring_share.specs.Crowd.{rows_of, seats_on, tiers_of}
use Rattle.ring_share.specs.Room.{has_open, has_room, have, place_of, want_of}
use Rattle.ring_share.specs.Want.{AreWanted}
use Rattle.ring_share.proofs.AllSeats.{have_is_rows}
use Rattle.ring_share.proofs.Determined.{same_wants}
use Rattle.ring_share.proofs.Rows.{length-row_of, row_of_at}
use Rattle.ring_place.specs.Rebalance.{IsAtRest, IsLeft, IsRebalance, IsSeat, changed_seats}
use Rattle.ring_place.specs.Rebalance.{count_seats, differs, has_changed, has_free, has_left}
use Rattle.ring_place.specs.Rebalance.{has_less_crowded, has_lost, is_free, is_locked, is_lost}
use Rattle.ring_place.specs.Rebalance.{is_recent, kept_count, kept_row, takes_room}
use Rattle.ring_place.proofs.Lawful.{lawful}
use Rattle.ring_place.proofs.Finishing.NewRing.{AllRemain, crowd_remaining, others_remain}
use Rattle.ring_place.proofs.Placing.Placeable.{fails, open_present}
use Rattle.ring_place.proofs.Rows.IndexRanges.{any_counted, range_get, sum_map, sum_same}
use Rattle.ring_place.proofs.Rows.IndexRanges.{term_of_sum}
use Rattle.ring_place.proofs.Finishing.RemainingDevices.{IsRest, any_alike, open_remaining}
use Rattle.ring_place.proofs.Finishing.RemainingDevices.{present_remains, remaining, want_remaining}
use Rattle.ring_place.proofs.Finishing.RemainingDevices.{wanted_left, wants_left}
use Rattle.ring_place.proofs.ValidAfter.{on_remaining, stays_valid}

same_if : (a b : Option ℕ) → differs a b ≡ false → b ≡ a
same_if None None h = refl
same_if None (Some y) h = absurd (cc h)
same_if (Some x) None h = absurd (cc h)
same_if (Some x) (Some y) h = ap Some (sym (eqb-true x y (not_false (x == y) h)))
  where
    not_false : (b : Bool) → not b ≡ false → b ≡ true
    not_false true h = refl
    not_false false h = absurd (cc h)

none_counted : (b : Bool) → cond b 1 0 ≤ 0 → b ≡ false
none_counted true le = absurd (omega (arith, le))
none_counted false le = refl

both_first : (a b : Bool) → (a && b) ≡ true → a ≡ true
both_first true b h = refl
both_first false b h = h

module _ (old new : RingRecord) (hour : ℕ) (wanted : List ℕ) (small : hour < long_count)
    (valid : IsValid old) (r : IsRebalance old hour new) (are : AreWanted new wanted)
    (unchanged : changed_seats old new ≡ 0) where
  rest : IsRest old new
  rest = record {
    power = ap (λ (x : RingRecord). x.power) r.after.rest;
    replicas =
        ap (λ (x : RingRecord). x.replicas) r.after.rest;
    devices = r.after.devices;
  }

  partitions_same : partition_count new ≡ partition_count old
  partitions_same = ap (λ (n : ℕ). 2 ^ n) rest.power

  before : List ℕ
  before = r.wanted_before

  wants_are : wanted ≡ wants_left old.devices r.wanted_before
  wants_are = same_wants new wanted (wants_left old.devices r.wanted_before) are
      (wanted_left old new rest r.wanted_before r.are_before)

  after_is : r.wanted_after ≡ wanted
  after_is = same_wants new r.wanted_after wanted r.are_after are

  -- ---- the seats

  row_count : (p : ℕ) → ℕ
  row_count p = count_by (λ k. differs (seat old p k) (seat new p k))
      (range_with_len 0 old.replicas)

  seat_same : (p k : ℕ) → IsSeat old p k → seat new p k ≡ seat old p k
  seat_same p k s =
      let all = term_of_sum (λ q. count_by (λ i. differs (seat old q i) (seat new q i))
      (range_with_len 0 old.replicas)) (partition_count old) p s.partition_there in
      let one = term_of_sum (λ i. cond (differs (seat old p i) (seat new p i)) 1 0) old.replicas k
      s.replica_there in
      same_if (seat old p k) (seat new p k) (none_counted (differs (seat old p k) (seat new p k))
      (omega (arith, all, one, unchanged)))

  seat_there : (p k : ℕ) → IsSeat old p k → (id : ℕ) × (seat old p k ≡ Some id) ×
      (has_present id old.devices ≡ true)
  seat_there p k s = let there = (on_remaining old new hour (lawful old new hour r)).there p k s in
      (there.0, sym (seat_same p k s) ∙ there.1, there.2)

  row_same : (p : ℕ) → p < partition_count old → row_of new p ≡ row_of old p
  row_same p lt = fill_by_all (λ k. seat old p k) (row_of new p) old.replicas None
      (length-row_of new p ∙ rest.replicas)
      (λ k below. row_of_at new p k (let same = rest.replicas in omega (arith, below, same)) ∙
      seat_same p k (record { partition_there = lt; replica_there = below }))

  rows_same : rows_of new ≡ rows_of old
  rows_same = fill_by_all (λ p. row_of old p) (rows_of new) (partition_count old) []
      (length-map-range_with_len (λ p. row_of new p) 0 (partition_count new) ∙ partitions_same)
      (λ p lt. get_or-map-range_with_len (λ q. row_of new q) 0 (partition_count new) p p []
      (omega (arith, lt, partitions_same)) (omega arith) ∙ row_same p lt)

  first : IsSeat old 0 0
  first = record {
    partition_there = pow_pos old.power;
    replica_there =
        (let least = valid.replicas.0 in omega (arith, least));
  }

  some : (n : ℕ) → 0 < n → nat_lt 0 n ≡ true
  some n h = grind (arith, nat_tests)

  assigned : is_assigned old ≡ true
  assigned =
      let there = seat_there 0 0 first in
      let within = slice_get_within old.seats (0 * old.replicas + 0) there.0 there.1 in
      some (length old.seats) (omega (arith, within))

  assigned_new : is_assigned new ≡ true
  assigned_new =
      let there = seat_there 0 0 first in
      let within = slice_get_within new.seats (0 * new.replicas + 0) there.0
      (seat_same 0 0 first ∙ there.1) in
      some (length new.seats) (omega (arith, within))

  have_same : (id : ℕ) → have new id ≡ have old id
  have_same id = have_is_rows new id (stays_valid old new hour small valid
      (lawful old new hour r))
      assigned_new ∙ ap (sum_by (seats_on id)) rows_same ∙ sym (have_is_rows old id valid assigned)

  none_lost : (p : ℕ) → p < partition_count old → has_lost old p ≡ false
  none_lost p lt = list_any_none (is_lost old) (row_of old p)
      (λ k d within.
      let below : k < old.replicas = omega (arith, within, length-row_of old p) in
      let there = seat_there p k (record { partition_there = lt; replica_there = below }) in
      ap (is_lost old) (get_or-map-range_with_len (λ i. seat old p i) 0 old.replicas k k d below
      (omega arith) ∙ there.1) ∙ ap not there.2)

  row_remains : (p : ℕ) → p < partition_count old → AllRemain old.devices (row_of old p)
  row_remains p lt k id at =
      let within = slice_get_within (row_of old p) k (Some id) at in
      let s : IsSeat old p k = record {
        partition_there = lt;
        replica_there =
            omega (arith, within, length-row_of old p);
      } in
      let there = seat_there p k s in
      let is : there.0 ≡ id = same_Some there.0 id (sym there.1 ∙ same_Some (seat old p k) (Some id)
      (sym (range_get (λ i. seat old p i) old.replicas k s.replica_there) ∙ at)) in
      subst (λ x. has_present x old.devices ≡ true) is there.2

  -- ---- tests of devices

  want_same : (id : ℕ) → has_present id old.devices ≡ true → want_of new wanted id ≡ want_of old
      r.wanted_before id
  want_same id present =
      ap (λ (ws : List ℕ). slice_index ws (place_of id new.devices)) wants_are
      ∙ ap (λ (ds : List Device). slice_index (wants_left old.devices r.wanted_before)
      (place_of id ds)) rest.devices
      ∙ want_remaining id old.devices r.wanted_before r.are_before.shares.count
      (present_remains old.devices valid.devices.rise id present)

  room_same : (id : ℕ) → has_present id old.devices ≡ true → has_room new wanted id ≡ has_room old
      r.wanted_before id
  room_same id present =
      ap (λ b. b && nat_lt (have new id) (want_of new wanted id)) (ap (has_open id) rest.devices ∙
      open_remaining id old.devices)
      ∙ ap (λ n. has_open id old.devices && nat_lt n (want_of new wanted id)) (have_same id)
      ∙ ap (λ n. has_open id old.devices && nat_lt (have old id) n) (want_same id present)

  free_same : (p : ℕ) → p < partition_count old → (id : ℕ) → has_present id old.devices ≡ true →
      is_free new wanted p id ≡ is_free old r.wanted_before p id
  free_same p lt id present =
      ap (λ b. b && is_outside (row_of new p) id) (room_same id present) ∙ ap
      (λ row. has_room old r.wanted_before id && is_outside row id) (row_same p lt)

  free_open : (p id : ℕ) → is_free old r.wanted_before p id ≡ true → has_open id old.devices ≡ true
  free_open p id free = both_first (has_open id old.devices)
      (nat_lt (have old id) (want_of old r.wanted_before id))
      (both_first (has_room old r.wanted_before id) (is_outside (row_of old p) id) free)

  any_free_same : (p : ℕ) → p < partition_count old → has_free new wanted p ≡ has_free old
      r.wanted_before p
  any_free_same p lt =
      ap (λ (ds : List Device). list_any (λ device. is_free new wanted p device.id) ds) rest.devices
      ∙ any_alike old.devices (is_free new wanted p) (is_free old r.wanted_before p)
      (free_same p lt) (free_open p) (open_present old.devices)

  crowd_same : (p k : ℕ) → p < partition_count old → (id : ℕ) → has_present id old.devices ≡ true →
      crowd_for new p k id ≡ crowd_for old p k id
  crowd_same p k lt id present =
      ap (λ (ds : List Device). crowd (tiers_of ds) (others (row_of new p) k) id) rest.devices
      ∙ ap (λ row. crowd (tiers_of (remaining old.devices)) (others row k) id) (row_same p lt)
      ∙ crowd_remaining old.devices valid.devices.rise (others (row_of old p) k)
      (others_remain old.devices (row_of old p) k (row_remains p lt)) id present

  less_same : (p k id : ℕ) → p < partition_count old → has_present id old.devices ≡ true →
      has_less_crowded new wanted p k id ≡ has_less_crowded old r.wanted_before p k id
  less_same p k id lt present =
      ap (λ (ds : List Device). list_any (λ device. is_free new wanted p device.id &&
      is_less (crowd_for new p k device.id) (crowd_for new p k id)) ds) rest.devices
      ∙ any_alike old.devices (λ x. is_free new wanted p x &&
      is_less (crowd_for new p k x) (crowd_for new p k id)) (λ x. is_free old r.wanted_before p
      x && is_less (crowd_for old p k x) (crowd_for old p k id))
      (λ x there. ap (λ b. b && is_less (crowd_for new p k x) (crowd_for new p k id))
      (free_same p lt x there)
      ∙ ap (λ c. is_free old r.wanted_before p x && is_less c (crowd_for new p k id))
      (crowd_same p k lt x there)
      ∙ ap (λ c. is_free old r.wanted_before p x && is_less (crowd_for old p k x) c)
      (crowd_same p k lt id present))
      (λ x passes. free_open p x (both_first (is_free old r.wanted_before p x)
      (is_less (crowd_for old p k x) (crowd_for old p k id)) passes))
      (open_present old.devices)

  -- ---- nothing was gathered

  takes_one : (p k id : ℕ) → IsSeat old p k → r.gathered p k ≡ true → seat new p k ≡ Some id →
      has_free new wanted p ≡ true →
      1 ≤ count_seats old (takes_room old r.gathered new r.wanted_after id)
  takes_one p k id s up at free =
      let all = term_of_sum (λ q. count_by (takes_room old r.gathered new r.wanted_after id q)
      (range_with_len 0 old.replicas)) (partition_count old) p s.partition_there in
      let one = term_of_sum (λ i. cond (takes_room old r.gathered new r.wanted_after id p i) 1 0)
      old.replicas k s.replica_there in
      let free' : has_free new r.wanted_after p ≡ true = ap (λ (ws : List ℕ). has_free new ws p)
      after_is ∙ free in
      let on : is_on (λ other. other == id) (seat new p k) ≡ true =
      ap (is_on (λ other. other == id)) at ∙ eq-eqb id id refl in
      let takes : takes_room old r.gathered new r.wanted_after id p k ≡ true =
      all_three (r.gathered p k) (is_on (λ other. other == id) (seat new p k))
      (has_left old (seat old p k) (seat new p k)) (has_free new r.wanted_after p) up on free'
      in
      let here : ◌≡◌ {A = ℕ} (cond (takes_room old r.gathered new r.wanted_after id p k) 1 0) 1 =
      ap (λ b. cond b 1 0) takes in
      omega (arith, all, one, here)
    where
      all_three : (a b c d : Bool) → a ≡ true → b ≡ true → d ≡ true → ((a && b) && (c || d)) ≡ true
      all_three true true true d h i j = refl
      all_three true true false d h i j = j
      all_three true false c d h i j = absurd (cc i)
      all_three false b c d h i j = absurd (cc h)

  none_gathered : (p k : ℕ) → IsSeat old p k → r.gathered p k ≡ false
  none_gathered p k s = fails (r.gathered p k) (λ up.
      let there = seat_there p k s in
      let id = there.0 in
      let at_new : seat new p k ≡ Some id = seat_same p k s ∙ there.1 in
      let lt = s.partition_there in
      elim (r.reasons p k id s up there.1 there.2) [
        | inl crowded ↦
            let settled = ap (λ (ws : List ℕ). has_less_crowded new ws p k id) (sym after_is) ∙
            r.settled p k id s up at_new in
            let same = less_same p k id lt there.2 in absurd (cc (crowded, settled, same))
        | inr surplus ↦
            let free : has_free new wanted p ≡ true = any_free_same p lt ∙ surplus.0 in
            let one = takes_one p k id s up at_new free in
            let room = r.within_room id there.2 in
            let want : want_of new r.wanted_after id ≡ want_of old r.wanted_before id =
            ap (λ (ws : List ℕ). want_of new ws id) after_is ∙ want_same id there.2 in
            let enough = surplus.1 in
            absurd (omega (arith, one, room, want, enough))
      ])

  kept_all : (p : ℕ) → p < partition_count old → kept_row old r.gathered p ≡ row_of old p
  kept_all p lt = fill_by_all (λ k. seat old p k) (kept_row old r.gathered p) old.replicas None
      (length-map-range_with_len (λ k. if r.gathered p k then None else seat old p k) 0
      old.replicas)
      (λ k below. get_or-map-range_with_len (λ i. if r.gathered p i then None else seat old p i) 0
      old.replicas k k None below (omega arith)
      ∙ ap (λ b. if b then None else seat old p k) (none_gathered p k (record {
        partition_there =
            lt;
        replica_there = below;
      })))

  kept_is_have : (id : ℕ) → kept_count old r.gathered id ≡ have old id
  kept_is_have id =
      sum_same (λ p. seats_on id (kept_row old r.gathered p)) (λ p. seats_on id (row_of old p))
      (partition_count old) (λ p lt. ap (seats_on id) (kept_all p lt))
      ∙ sym (sum_map (seats_on id) (λ p. row_of old p) (range_with_len 0 (partition_count old))) ∙
      sym (have_is_rows old id valid assigned)

  -- ---- no hour changed

  locked_same : (p : ℕ) → p < partition_count old → is_locked new hour p ≡ is_locked old hour p
  locked_same p lt =
      let none : has_changed old new p ≡ false =
      sym (any_counted (λ k. differs (seat old p k) (seat new p k))
      (range_with_len 0 old.replicas)) ∙ not_less
      (count_by (λ k. differs (seat old p k) (seat new p k)) (range_with_len 0 old.replicas))
      (none_here p lt) in
      ap (λ (n : ℕ). is_recent n hour (moved_at new p)) (ap (λ (x : RingRecord). x.min_hours)
      r.after.rest)
      ∙ ap (is_recent old.min_hours hour) (r.after.moved p lt ∙ ap (λ b. if b then Some hour else
      moved_at old p) none)
    where
      none_here : (q : ℕ) → q < partition_count old →
          count_by (λ k. differs (seat old q k) (seat new q k)) (range_with_len 0 old.replicas) ≡ 0
      none_here q below = let all = term_of_sum
          (λ i. count_by (λ k. differs (seat old i k) (seat new i k))
          (range_with_len 0 old.replicas)) (partition_count old) q below in
          omega (arith, all, unchanged)

      not_less : (n : ℕ) → n ≡ 0 → nat_lt 0 n ≡ false
      not_less n is = ap (nat_lt 0) is

  -- ---- at rest

  pub at_rest : (p k id : ℕ) → IsSeat new p k → is_locked new hour p ≡ false →
      seat new p k ≡ Some id → IsAtRest new wanted p k id
  at_rest p k id s unlocked at =
      let lt : p < partition_count old = (let below = s.partition_there in
      omega (arith, below, partitions_same)) in
      let s_old : IsSeat old p k = record {
        partition_there = lt;
        replica_there =
            (let below = s.replica_there in let same = rest.replicas in omega (arith, below, same));
      }
      in
      let is : seat old p k ≡ Some id = sym (seat_same p k s_old) ∙ at in
      let there = seat_there p k s_old in
      let same : there.0 ≡ id = same_Some there.0 id (sym there.1 ∙ is) in
      let present : has_present id old.devices ≡ true =
      subst (λ x. has_present x old.devices ≡ true) same there.2 in
      let left : IsLeft old hour r.gathered p = record {
        unlocked = sym (locked_same p lt) ∙ unlocked;
        none_lost = none_lost p lt;
        none_gathered = λ i below. none_gathered p i (record {
          partition_there = lt;
          replica_there =
              below;
        });
      } in
      record {
        uncrowded = less_same p k id lt present ∙ r.whole.crowded p k id s_old left is;
        no_surplus = λ free.
            let few = r.whole.surplus p k id s_old left is (sym (any_free_same p lt) ∙ free) in
            omega (arith, few, kept_is_have id, have_same id, want_same id present);
      }
