-- What the passes lift is what a rebalance gathers.
use Rattle.std.proofs.Common.{◌≡◌, ℕ, ◌<◌, Bool, true, false, not, ◌&&◌, List, get_or, map, Option}
use Rattle.std.proofs.Common.{Some, None, refl, sym, ap, ◌∙◌, ⊎_elim, arith}
use Rattle.std.specs.Prelude.{slice_get, nat_lt}
use Rattle.std.specs.List.{list_any}
use Rattle.std.proofs.lemmas.Bool.{and_left, cases_eq}
use Rattle.std.proofs.lemmas.List.{get_or-map, get_or-set_other}
use Rattle.std.proofs.lemmas.List.Folds.{list_any_at}
use Rattle.std.proofs.lemmas.Option.{slice_get-get_or}
use Rattle.ring_model.specs.Ring.{RingRecord, has_device, has_present, seat}
use Rattle.ring_words.specs.declared.device.Device.{Device}
use Rattle.ring_share.specs.Crowd.{crowd_for, is_less, is_outside, others, row_of}
use Rattle.ring_share.specs.Room.{has_open, has_room, have, want_of}
use Rattle.ring_share.proofs.Rows.{length-row_of, row_of_at}
use Rattle.ring_room.specs.Load.{Load, crowd_in, has_room_in, have_in, is_free_in, want_in}
use Rattle.ring_place.specs.Rebalance.{has_free, has_less_crowded, has_lost, is_free, is_lost}
use Rattle.ring_room.specs.Rows.{is_empty}
use Rattle.ring_place.specs.Inner.Gathering.{Lifts}
use Rattle.ring_place.specs.Made.{is_lost_in}
use Rattle.ring_room.specs.Free.{has_free_in, is_crowded_in}
use Rattle.ring_place.specs.Inner.Gathering.{present_only}
use Rattle.ring_place.proofs.Gathering.BothPasses.{empty_lost}
use Rattle.ring_room.proofs.Searching.LessCrowded.{list_any_agree, open_known}

-- ---- the ring as a load

module _ (ring : RingRecord) (was : Load) (wanted : List ℕ) (devices : was.devices ≡ ring.devices)
    (wants : was.wanted ≡ wanted)
    (counts : (id : ℕ) → has_device id ring.devices ≡ true → have_in was id ≡ have ring id) where
  pub lost_same : (s : Option ℕ) → is_lost_in was.devices s ≡ is_lost ring s
  lost_same None = refl
  lost_same (Some id) = ap (λ ds. not (has_present id ds)) devices

  pub has_lost_same : (partition : ℕ) → list_any (is_lost_in was.devices) (row_of ring partition) ≡
      has_lost ring partition
  has_lost_same partition = list_any_agree (is_lost_in was.devices) (is_lost ring) lost_same
      (row_of ring partition)

  pub want_same : (id : ℕ) → want_in was id ≡ want_of ring wanted id
  want_same id = rw (devices, wants) refl

  room_if : (id : ℕ) (b : Bool) → has_open id ring.devices ≡ b → has_room_in was id ≡ has_room ring
      wanted id
  room_if id false closed = and_left (has_open id was.devices) _ (ap (has_open id) devices ∙ closed)
      ∙ sym (and_left (has_open id ring.devices) _ closed)
  room_if id true opens =
      ap (λ ds. has_open id ds && nat_lt (have_in was id) (want_in was id)) devices
      ∙ ap (λ (n : ℕ). has_open id ring.devices && nat_lt n (want_in was id))
      (counts id (open_known ring.devices id opens))
      ∙ ap (λ (n : ℕ). has_open id ring.devices && nat_lt (have ring id) n) (want_same id)

  pub room_same : (id : ℕ) → has_room_in was id ≡ has_room ring wanted id
  room_same id = room_if id (has_open id ring.devices) refl

  pub free_same : (partition id : ℕ) → is_free_in was (row_of ring partition) id ≡ is_free ring wanted
      partition id
  free_same partition id = ap (λ b. b && is_outside (row_of ring partition) id) (room_same id)

  pub has_free_same : (partition : ℕ) → has_free_in was (row_of ring partition) ≡ has_free ring
      wanted partition
  has_free_same partition =
      list_any_agree (λ (device : Device). is_free_in was (row_of ring partition) device.id)
      (λ (device : Device). is_free ring wanted partition device.id)
      (λ device. free_same partition device.id) was.devices
      ∙ ap (list_any (λ (device : Device). is_free ring wanted partition device.id)) devices

  pub crowded_same : (partition replica id : ℕ) → is_crowded_in was (row_of ring partition) replica
      id ≡ has_less_crowded ring wanted partition replica id
  crowded_same partition replica id =
      list_any_agree
      (λ (device : Device). is_free_in was (row_of ring partition) device.id &&
      is_less (crowd_in was (others (row_of ring partition) replica) device.id)
      (crowd_in was (others (row_of ring partition) replica) id))
      (λ (device : Device). is_free ring wanted partition device.id &&
      is_less (crowd_for ring partition replica device.id) (crowd_for ring partition replica
      id))
      (λ device. ap (λ b. b && is_less (crowd_in was (others (row_of ring partition) replica)
      device.id) (crowd_in was (others (row_of ring partition) replica) id))
      (free_same partition device.id)
      ∙ ap (λ c. is_free ring wanted partition device.id &&
      is_less c (crowd_in was (others (row_of ring partition) replica) id))
      (crowd_same partition replica device.id)
      ∙ ap (λ c. is_free ring wanted partition device.id &&
      is_less (crowd_for ring partition replica device.id) c) (crowd_same partition replica id))
      was.devices
      ∙ ap (list_any (λ (device : Device). is_free ring wanted partition device.id &&
      is_less (crowd_for ring partition replica device.id) (crowd_for ring partition replica
      id))) devices
    where
      crowd_same : (partition replica other : ℕ) →
          crowd_in was (others (row_of ring partition) replica) other ≡ crowd_for ring partition
          replica other
      crowd_same partition replica other = rw devices refl

-- ---- seats of a ring's partition

pub seat_in_row : (ring : RingRecord) (partition replica : ℕ) → replica < ring.replicas →
    slice_get (row_of ring partition) replica ≡ Some (seat ring partition replica)
seat_in_row ring partition replica lt =
    slice_get-get_or (row_of ring partition) replica None (omega (
      arith,
      lt,
      length-row_of ring partition,
    )) ∙ ap Some (row_of_at ring partition replica lt)

-- a lost seat of a partition makes it one that has lost seats
pub lost_found : (devices : List Device) (ring : RingRecord) (partition replica : ℕ) →
    replica < ring.replicas → is_lost_in devices (seat ring partition replica) ≡ true
    → list_any (is_lost_in devices) (row_of ring partition) ≡ true
lost_found devices ring partition replica lt lost =
    list_any_at (is_lost_in devices) (row_of ring partition) replica None (omega (
      arith,
      lt,
      length-row_of ring partition,
    )) (ap (is_lost_in devices) (row_of_at ring partition replica
    lt) ∙ lost)

-- and a seat of a partition without lost ones isn't empty
pub not_empty : (devices : List Device) (ring : RingRecord) (partition replica : ℕ) →
    replica < ring.replicas → list_any (is_lost_in devices) (row_of ring partition) ≡ false
    → is_empty (get_or (row_of ring partition) replica None) ≡ false
not_empty devices ring partition replica lt none =
    decide (get_or (row_of ring partition) replica None) refl
  where
    decide : (s : Option ℕ) → get_or (row_of ring partition) replica None ≡ s → is_empty s ≡ false
    decide (Some id) is = refl
    decide None is =
        absurd (let lost = lost_found devices ring partition replica lt (ap (is_lost_in devices)
        (sym (row_of_at ring partition replica lt) ∙ is)) in cc (lost, none))

-- a seat that isn't the lifted one isn't empty
pub one_lifted : (devices : List Device) (ring : RingRecord) (lifted : List (Option ℕ))
    (partition at id replica : ℕ) → replica < ring.replicas →
    list_any (is_lost_in devices) (row_of ring partition) ≡ false
    → Lifts (row_of ring partition) lifted at id → is_empty (get_or lifted replica None) ≡ true →
    replica ≡ at
one_lifted devices ring lifted partition at id replica lt none lifts empty = ⊎_elim
    (λ same. same)
    (λ other.
    let read : get_or lifted replica None ≡ get_or (row_of ring partition) replica None =
    ap (λ r. get_or r replica None) lifts.lifted ∙ get_or-set_other (row_of ring partition) at
    replica None None other in
    let full = not_empty devices ring partition replica lt none in
    let here = ap is_empty read in
    absurd (cc (empty, full, here)))
    (cases_eq replica at)

pub lost_empty : (devices : List Device) (ring : RingRecord) (lifted : List (Option ℕ))
    (partition replica : ℕ) → replica < ring.replicas → lifted ≡ map (present_only devices)
    (row_of ring partition)
    → is_empty (get_or lifted replica None) ≡ is_lost_in devices (seat ring partition replica)
lost_empty devices ring lifted partition replica lt is =
    ap (λ r. is_empty (get_or r replica None)) is
    ∙ ap is_empty (get_or-map (present_only devices) (row_of ring partition) replica None None
    (omega (arith, lt, length-row_of ring partition)))
    ∙ ap (λ s. is_empty (present_only devices s)) (row_of_at ring partition replica lt) ∙ empty_lost
    devices (seat ring partition replica)
