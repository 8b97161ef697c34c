-- A raised ring is valid.
use Rattle.std.proofs.Common.{◌≡◌, ℕ, ◌+◌, ◌*◌, ◌/◌, ◌%◌, ◌^◌, ◌<◌, ◌≤◌, ◌⊎◌, true, List, length}
use Rattle.ring_words.specs.Limits.{greatest_power}
use Rattle.std.proofs.Common.{get_or, Some, refl, sym, ap, subst, ◌∙◌, ⊎_elim, inl, inr, add-one}
use Rattle.std.proofs.Common.{Option, None, arith}
use Rattle.std.specs.Prelude.{All, slice_get, slice_index_or, unwrap_or}
use Rattle.std.proofs.Math.Nat.{div-add-mod, mod-lt, mul_comm, mul_assoc, pow-suc}
use Rattle.std.proofs.lemmas.Bool.{cases_eq}
use Rattle.std.proofs.lemmas.Option.{slice_get-get_or, slice_get_within, get_or_from_slice_get}
use Rattle.std.proofs.lemmas.Option.{unwrap_or-slice_get}
use Rattle.std.proofs.lemmas.List.{get_or_default}
use Rattle.ring_model.specs.Ring.{RingRecord, has_device, moved_at, seat, risen, partition_count}
use Rattle.ring_model.specs.Raise.{IsRaised}
use Rattle.ring_model.specs.Inner.Twice.{IsTwice}
use Rattle.ring_model.specs.Valid.{AreDistinct, IsHour, IsValid}
use Rattle.ring_model.proofs.Changes.{risen_fits}

same_replicas : (old new : RingRecord) → IsRaised old new → new.replicas ≡ old.replicas
same_replicas old new raised = ap (λ (r : RingRecord). r.replicas) raised.rest

-- a partition of the raised ring is a half of one of the old
half_seat : (old new : RingRecord) → IsRaised old new → (half replica : ℕ) →
    replica < old.replicas → slice_get new.seats (half * old.replicas + replica) ≡ seat old
    (half / 2) replica
half_seat old new raised half replica lt =
    let both = raised.seats (half / 2) replica lt in
    let even : (half ≡ 2 * (half / 2)) ⊎ (half ≡ 2 * (half / 2) + 1) =
    ⊎_elim (λ e. inl (omega arith)) (λ ne. inr (omega arith)) (cases_eq (half % 2) 0) in
    let same = same_replicas old new raised in
    ⊎_elim
    (λ e. ap (λ (q : ℕ). slice_get new.seats (q * old.replicas + replica)) e ∙ ap
    (λ (r : ℕ). slice_get new.seats (2 * (half / 2) * r + replica)) (sym same) ∙ both.0)
    (λ e. ap (λ (q : ℕ). slice_get new.seats (q * old.replicas + replica)) e ∙ ap
    (λ (r : ℕ). slice_get new.seats ((2 * (half / 2) + 1) * r + replica)) (sym same) ∙ both.1)
    even

known_halves : (old new : RingRecord) → IsRaised old new → 0 < old.replicas →
    All (λ id. has_device id old.devices ≡ true) old.seats →
    All (λ id. has_device id old.devices ≡ true) new.seats
known_halves old new raised some known k d lt =
    let place : k / old.replicas * old.replicas + k % old.replicas ≡ k =
    omega (arith, div-add-mod k old.replicas, mul_comm old.replicas (k / old.replicas)) in
    let from = half_seat old new raised (k / old.replicas) (k % old.replicas) (mod-lt k some) in
    let here : slice_get new.seats k ≡ Some (get_or new.seats k d) = slice_get-get_or new.seats k d
    lt in
    let there : seat old (k / old.replicas / 2) (k % old.replicas) ≡ Some (get_or new.seats k d) =
    sym from ∙ ap (λ (n : ℕ). slice_get new.seats n) place ∙ here in
    let within = slice_get_within old.seats _ (get_or new.seats k d) there in
    subst (λ (id : ℕ). has_device id old.devices ≡ true) (get_or_from_slice_get old.seats _
    (get_or new.seats k d) d there) (known _ d within)

distinct_halves : (old new : RingRecord) → IsRaised old new → AreDistinct old.replicas old.seats →
    AreDistinct old.replicas new.seats
distinct_halves old new raised distinct half one other id lone lother first second =
    distinct (half / 2) one other id lone lother (sym (half_seat old new raised half one lone) ∙
    first) (sym (half_seat old new raised half other lother) ∙ second)

hours_of_halves : (old new : RingRecord) → IsRaised old new → All IsHour old.moved →
    All IsHour new.moved
hours_of_halves old new raised hours k d lt =
    let both = raised.moved (k / 2) in
    let from : moved_at new k ≡ moved_at old (k / 2) =
    ⊎_elim
    (λ e. ap (moved_at new) (let even : k ≡ 2 * (k / 2) = omega arith in even) ∙ both.0)
    (λ ne. ap (moved_at new) (let odd : k ≡ 2 * (k / 2) + 1 = omega arith in odd) ∙ both.1)
    (cases_eq (k % 2) 0) in
    let within : k / 2 < length old.moved = omega (arith, raised.moved_count) in
    let same : get_or new.moved k d ≡ get_or old.moved (k / 2) None =
    get_or_default new.moved k d None lt ∙ from in
    subst IsHour (sym same) (hours (k / 2) None within)

twice_as_many : (old new : RingRecord) → IsRaised old new →
    partition_count new ≡ 2 * partition_count old
twice_as_many old new raised = ap (λ (n : ℕ). 2 ^ n) raised.power ∙ rw (add-one, pow-suc)
    (mul_comm (2 ^ old.power) 2)

pub raised_valid : (old new : RingRecord) → IsValid old → IsRaised old new →
    new.power ≤ greatest_power →
    IsValid new
raised_valid old new valid raised low =
    let same = same_replicas old new raised in
    let devices = ap (λ (r : RingRecord). r.devices) raised.rest in
    let numbers = ap (λ (r : RingRecord). r.next_id) raised.rest in
    let twice = twice_as_many old new raised in
    record {
      power = (omega (arith, raised.power), low);
      replicas = rw same valid.replicas;
      min_hours = rw (ap (λ (r : RingRecord). r.min_hours) raised.rest) valid.min_hours;
      next_id = rw numbers valid.next_id;
      version = rw raised.version (risen_fits old.version valid.version);
      devices = rw (numbers, devices) valid.devices;
      seats = rw (twice, same, devices) (record {
        whole = λ some. raised.seat_count ∙ ap (λ (n : ℕ). 2 * n) (valid.seats.whole (let more =
            raised.seat_count in omega arith)) ∙ sym (mul_assoc 2 (partition_count old)
            old.replicas);
        known = known_halves old new raised valid.replicas.0 valid.seats.known;
        distinct = distinct_halves old new raised valid.seats.distinct;
      });
      moved = raised.moved_count ∙ ap (λ (n : ℕ). 2 * n) valid.moved ∙ sym twice;
      hours = hours_of_halves old new raised valid.hours;
      published = rw (ap (λ (r : RingRecord). r.published) raised.rest) valid.published;
    }

-- the ring of a greater power with these seats and moves
abbrev pub raised_to : RingRecord → ℕ → List ℕ → List (Option ℕ) → RingRecord
raised_to old power seats moved = record old {
  power = power;
  version = risen old.version;
  seats =
      seats;
  moved = moved;
}

moved_half : (old moved : List (Option ℕ)) (i j k : ℕ) → i ≡ j → slice_get moved i ≡ slice_get old k
    → (n : ℕ) → k ≡ n → slice_index_or moved j None ≡ slice_index_or old n None
moved_half old moved i j k e same n f =
    sym (unwrap_or-slice_get moved j None) ∙ ap (λ (m : ℕ). unwrap_or (slice_get moved m) None)
    (sym e) ∙ ap (λ (o : Option (Option ℕ)). unwrap_or o None) same
    ∙ ap (λ (m : ℕ). unwrap_or (slice_get old m) None) f ∙ unwrap_or-slice_get old n None

pub raised_is : (old : RingRecord) (power : ℕ) (seats : List ℕ) (moved : List (Option ℕ)) →
    power ≡ old.power + 1
    → length seats ≡ 2 * length old.seats → IsTwice old.replicas old.seats seats →
    length moved ≡ 2 * length old.moved → IsTwice 1 old.moved moved →
    IsRaised old (raised_to old power seats moved)
raised_is old power seats moved up seat_count twice moved_count both = record {
  power = up;
  version = refl;
  seats = twice;
  moved = λ partition. (
    moved_half old.moved moved (2 * partition * 1 + 0) (2 * partition) (partition * 1 + 0)
        (omega arith) (both partition 0 (omega arith)).0 partition (omega arith),
    moved_half old.moved moved ((2 * partition + 1) * 1 + 0) (2 * partition + 1) (partition * 1 + 0)
        (omega arith) (both partition 0 (omega arith)).1 partition (omega arith),
  );
  seat_count = seat_count;
  moved_count = moved_count;
  rest = refl;
}
