-- A rebalance of a valid ring is valid.
use Rattle.std.proofs.Common.{◌≡◌, ℕ, ◌+◌, ◌*◌, ◌/◌, ◌%◌, ◌^◌, ◌<◌, ◌≤◌, All, true, false, not}
use Rattle.ring_words.specs.Limits.{greatest_short, most_ids}
use Rattle.ring_words.specs.Limits.{greatest_long, long_count}
use Rattle.ring_words.specs.Limits.{greatest_power, most_replicas}
use Rattle.std.proofs.Common.{List, length, map, Some, sym, ap, subst, ◌∙◌, inl, inr, ⊎_elim, arith}
use Rattle.std.proofs.Common.{slice_get, Bool, cond, get_or, Option, None}
use Rattle.std.specs.List.{AllPairs}
use Rattle.std.specs.List.Sorted.{IsStrictlyIncreasing}
use Rattle.std.proofs.Math.Nat.{mul-le-mul_right}
use Rattle.std.proofs.lemmas.Bool.{cases_Bool, cases_lt}
use Rattle.std.proofs.lemmas.Bool.Decides.{nat_tests}
use Rattle.std.proofs.lemmas.List.{get_or-map, get_or_default, length-map}
use Rattle.std.proofs.lemmas.List.Elements.{All-filter}
use Rattle.std.proofs.lemmas.List.Kept.{AllPairs-filter}
use Rattle.std.proofs.lemmas.List.Sums.{count_by-le-length, length-filter}
use Rattle.std.proofs.lemmas.Nat.{div-add-mod', div_below}
use Rattle.std.proofs.lemmas.Option.{get_or_from_slice_get, slice_get_within}
use Rattle.ring_model.specs.Ring.{RingRecord, has_device, has_present, moved_at, partition_count}
use Rattle.ring_model.specs.Ring.{risen, seat}
use Rattle.ring_model.specs.Valid.{AreDevices, ArePublished, AreSeats, IsHour, IsValid}
use Rattle.ring_words.specs.Rows.{IsProperRow, same_place}
use Rattle.ring_words.specs.declared.device.Device.{Device}
use Rattle.ring_place.specs.Rebalance.{IsAfter, IsLawfulRebalance, IsSeat, has_changed, is_lost}
use Rattle.ring_room.proofs.Searching.OpenDevices.{pairs}
use Rattle.ring_room.proofs.Searching.FreeOutside.{device_there}
use Rattle.ring_place.proofs.Placing.Placeable.{fails, lost_cases, open_present}
use Rattle.ring_place.proofs.Finishing.RemainingDevices.{present_remaining, remaining}

-- ---- devices that remain

rising : (devices : List Device) → AllPairs (λ (a b : Device). a.id < b.id) devices →
    IsStrictlyIncreasing (map (λ device. device.id) devices)
rising devices rise k lt =
    let long = length-map devices (λ (device : Device). device.id) in
    let some = device_there devices k (omega (arith, lt, long)) in
    let one = get_or-map (λ (device : Device). device.id) devices k some.0 0 (omega (
      arith,
      lt,
      long,
    )) in
    let other = get_or-map (λ (device : Device). device.id) devices (k + 1) some.0 0
    (omega (arith, lt, long)) in
    let less = rise k (k + 1) some.0 (omega arith) (omega (arith, lt, long)) in
    omega (arith, one, other, less)

devices_remain : (next_id : ℕ) (devices : List Device) → AreDevices next_id devices →
    AreDevices next_id (remaining devices)
devices_remain next_id devices are = record {
  count = (let few = are.count in
      omega (
        arith,
        few,
        length-filter (λ (device : Device). not device.removed) devices,
        count_by-le-length (λ (device : Device). not device.removed) devices,
      ));
  below = All-filter (λ (device : Device). not device.removed) (λ (device : Device). device.id <
      next_id) devices are.below;
  rise = rising (remaining devices) (AllPairs-filter (λ (a b : Device). a.id < b.id)
      (λ (device : Device). not device.removed) devices (pairs devices are.rise));
  apart = AllPairs-filter (λ (a b : Device). same_place a.row b.row ≡ false)
      (λ (device : Device). not device.removed) devices are.apart;
  proper = All-filter (λ (device : Device). not device.removed)
      (λ (device : Device). IsProperRow device.row) devices are.proper;
}

risen_few : (version : ℕ) → version ≤ greatest_long → risen version ≤ greatest_long
risen_few version few = grind (arith, nat_tests)

-- ---- hours of moves

hour_after : (b : Bool) (hour : ℕ) (was : Option ℕ) → hour < long_count → IsHour was →
    IsHour (cond b (Some hour) was)
hour_after true hour was small is = small
hour_after false hour was small is = is

-- ---- seats on them

-- In the new ring each seat is on a device that remains, those of a partition on different ones.
pub record AreOnRemaining (old new : RingRecord) : Type 0 where
  pub there : (partition replica : ℕ) → IsSeat old partition replica → (id : ℕ) ×
      (seat new partition replica ≡ Some id) × (has_present id old.devices ≡ true)
  pub distinct : (partition replica other id : ℕ) → IsSeat old partition replica →
      IsSeat old partition other →
      seat new partition replica ≡ Some id → seat new partition other ≡ Some id → replica ≡ other

module _ (old new : RingRecord) (hour : ℕ) (valid : IsValid old) (on : AreOnRemaining old new)
    (after : IsAfter old hour new) (small : hour < long_count) where
  replicas_same : new.replicas ≡ old.replicas
  replicas_same = ap (λ (r : RingRecord). r.replicas) after.rest

  power_same : new.power ≡ old.power
  power_same = ap (λ (r : RingRecord). r.power) after.rest

  partitions_same : partition_count new ≡ partition_count old
  partitions_same = ap (λ (n : ℕ). 2 ^ n) power_same

  -- the device at a place of the seats
  at_place : (place : ℕ) → place < length new.seats → (id : ℕ) ×
      (slice_get new.seats place ≡ Some id) × (has_present id old.devices ≡ true)
  at_place place lt =
      let some : 0 < old.replicas = (let least = valid.replicas.0 in omega (arith, least)) in
      let count = after.seat_count in
      let s : IsSeat old (place / old.replicas) (place % old.replicas) = record {
        partition_there = div_below place old.replicas (partition_count old) some (omega (
          arith,
          lt,
          count,
        ));
        replica_there = omega (arith, some);
      } in
      let here = on.there (place / old.replicas) (place % old.replicas) s in
      let same : place / old.replicas * new.replicas + place % old.replicas ≡ place =
      ap (λ (n : ℕ). place / old.replicas * n + place % old.replicas) replicas_same ∙ div-add-mod'
      place old.replicas in
      (here.0, ap (slice_get new.seats) (sym same) ∙ here.1, here.2)

  seats_known : All (λ id. has_device id new.devices ≡ true) new.seats
  seats_known place d lt =
      let here = at_place place lt in
      ap (λ id. has_device id new.devices) (get_or_from_slice_get new.seats place here.0 d here.1)
      ∙ ap (has_device here.0) after.devices ∙ present_remaining here.0 old.devices ∙ here.2

  seats_distinct : (p one other id : ℕ) → one < new.replicas → other < new.replicas →
      slice_get new.seats (p * new.replicas + one) ≡ Some id →
      slice_get new.seats (p * new.replicas + other) ≡ Some id → one ≡ other
  seats_distinct p one other id lt mt at bt = ⊎_elim
      (λ below. on.distinct p one other id (record {
        partition_there = below;
        replica_there =
            omega (arith, lt, replicas_same);
      }) (record {
        partition_there = below;
        replica_there =
            omega (arith, mt, replicas_same);
      }) at bt)
      (λ past.
      let within = slice_get_within new.seats (p * new.replicas + one) id at in
      let count = after.seat_count in
      let le : partition_count old * new.replicas ≤ p * new.replicas =
      mul-le-mul_right new.replicas (omega (arith, past)) in
      let same : partition_count old * new.replicas ≡ partition_count old * old.replicas =
      ap (λ (n : ℕ). partition_count old * n) replicas_same in
      absurd (omega (arith, within, le, same, count)))
      (cases_lt p (partition_count old))

  seats_valid : AreSeats (partition_count new) new.replicas new.devices new.seats
  seats_valid = record {
    whole = λ some. after.seat_count ∙ ap (λ (n : ℕ). n * old.replicas) (sym partitions_same) ∙ ap
        (λ (n : ℕ). partition_count new * n) (sym replicas_same);
    known = seats_known;
    distinct = seats_distinct;
  }

  hours_valid : All IsHour new.moved
  hours_valid k d lt =
      let below : k < partition_count old = omega (arith, lt, after.moved_count) in
      let within : k < length old.moved = omega (arith, below, valid.moved) in
      let same : get_or new.moved k d ≡ get_or new.moved k None = get_or_default new.moved k d None
      lt in
      subst IsHour (sym (same ∙ after.moved k below)) (hour_after (has_changed old new k) hour
      (moved_at old k) small (valid.hours k None within))

  pub valid_after : IsValid new
  valid_after = record {
    power = subst (λ (n : ℕ). (1 ≤ n) × (n ≤ greatest_power)) (sym power_same) valid.power;
    replicas = subst (λ (n : ℕ). (1 ≤ n) × (n ≤ most_replicas)) (sym replicas_same) valid.replicas;
    min_hours = subst (λ (n : ℕ). n ≤ greatest_short) (sym (ap (λ (r : RingRecord). r.min_hours)
        after.rest))
        valid.min_hours;
    next_id = subst (λ (n : ℕ). n ≤ most_ids) (sym (ap (λ (r : RingRecord). r.next_id) after.rest))
        valid.next_id;
    version = subst (λ (n : ℕ). n ≤ greatest_long) (sym after.version)
        (risen_few old.version valid.version);
    devices = subst (λ (n : ℕ). AreDevices n new.devices)
        (sym (ap (λ (r : RingRecord). r.next_id) after.rest))
        (subst (λ (ds : List Device). AreDevices old.next_id ds) (sym after.devices)
        (devices_remain old.next_id old.devices valid.devices));
    seats = seats_valid;
    moved = after.moved_count ∙ sym partitions_same;
    hours = hours_valid;
    published = subst (λ (ps : List (ℕ × List ℕ)). ArePublished ps)
        (sym (ap (λ (r : RingRecord). r.published) after.rest)) valid.published;
  }

-- ---- where a lawful rebalance puts them

pub on_remaining : (old new : RingRecord) (hour : ℕ) → IsLawfulRebalance old hour new →
    AreOnRemaining old new
on_remaining old new hour l = record {
  there = λ p r s. elim (cases_Bool (l.gathered p r)) [
    | inl up ↦
        let put = l.seated.taken p r s up in (
          put.0,
          put.1,
          elim put.2 [
            | inl opens ↦ open_present old.devices put.0 opens
            | inr own ↦ own.1
          ],
        )
    | inr stays ↦
        let here = lost_cases old (seat old p r) (fails (is_lost old (seat old p r))
        (λ lost. let up = l.lawful.lost p r s lost in absurd (cc (up, stays)))) in
        (here.0, l.seated.stay p r s stays ∙ here.1, here.2)
  ];
  distinct = l.seated.distinct;
}

pub stays_valid : (old new : RingRecord) (hour : ℕ) → hour < long_count → IsValid old →
    IsLawfulRebalance old hour new → IsValid new
stays_valid old new hour small valid l = valid_after old new hour valid
    (on_remaining old new hour l) l.after small
