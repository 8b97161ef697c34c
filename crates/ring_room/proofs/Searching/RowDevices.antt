-- The devices of a row's seats count as the row does.
use Rattle.std.proofs.Common.{◌≡◌, ℕ, zero, suc, ◌==◌, Bool, true, ◌&&◌, cond, All, List, [], ◌∷◌}
use Rattle.std.proofs.Common.{count_by, Option, Some, None, refl, sym, ap, ◌∙◌, arith, ◌<◌, ◌+◌, ◌++◌, length, take, get_or}
use Rattle.std.proofs.lemmas.List.{append-nil, take_more}
use Rattle.std.proofs.lemmas.List.Elements.{filter_map-append}
use Rattle.std.proofs.lemmas.List.Elements.{All-cons, All-nil}
use Rattle.std.proofs.lemmas.List.Sums.{sum_by-cons}
use Rattle.ring_model.specs.Ring.{has_device}
use Rattle.ring_words.specs.declared.device.Device.{Device}
use Rattle.ring_share.specs.Crowd.{is_less, is_on, tiers_of}
use Rattle.ring_room.specs.Load.{Load, IsLeast, crowd_in, has_room_in, is_free_in, seats_of}
use Rattle.ring_room.specs.Rows.{AreKnown, devices_on}

pub count_taken : (test : ℕ → Bool) (row : List (Option ℕ)) →
    count_by (is_on test) (seats_of (devices_on row)) ≡ count_by (is_on test) row
count_taken test [] = refl
count_taken test (None ∷ row) =
    let one = sum_by-cons (λ (x : Option ℕ). cond (is_on test x) 1 0) None row in
    let rest = count_taken test row in
    omega (arith, one, rest)
count_taken test (Some id ∷ row) =
    let one = sum_by-cons (λ (x : Option ℕ). cond (is_on test x) 1 0) (Some id) row in
    let other = sum_by-cons (λ (x : Option ℕ). cond (is_on test x) 1 0) (Some id)
    (seats_of (devices_on row)) in
    let rest = count_taken test row in
    omega (arith, one, other, rest)

pub free_taken : (load : Load) (row : List (Option ℕ)) (id : ℕ) →
    is_free_in load (seats_of (devices_on row)) id ≡ is_free_in load row id
free_taken load row id = ap (λ (n : ℕ). has_room_in load id && (n == 0))
    (count_taken (λ other. other == id) row)

pub crowd_taken : (load : Load) (row : List (Option ℕ)) (id : ℕ) →
    crowd_in load (seats_of (devices_on row)) id ≡ crowd_in load row id
crowd_taken load row id =
    rw (
      count_taken ((tiers_of load.devices).region id) row,
      count_taken ((tiers_of load.devices).zone id) row,
      count_taken ((tiers_of load.devices).server id) row,
    ) refl

pub least_taken : (load : Load) (row : List (Option ℕ)) (id : ℕ) →
    IsLeast load (seats_of (devices_on row)) id → IsLeast load row id
least_taken load row id is = record {
  free = sym (free_taken load row id) ∙ is.free;
  least = λ other free. ap (λ c. is_less c (crowd_in load row id))
      (sym (crowd_taken load row other))
      ∙ ap (λ c. is_less (crowd_in load (seats_of (devices_on row)) other) c)
      (sym (crowd_taken load row id))
      ∙ is.least other (free_taken load row other ∙ free);
}

pub known_taken : (devices : List Device) (row : List (Option ℕ)) → AreKnown devices row →
    All (λ id. has_device id devices ≡ true) (devices_on row)
known_taken devices [] known = All-nil (λ (id : ℕ). has_device id devices ≡ true)
known_taken devices (None ∷ row) known =
    known_taken devices row (λ replica id at. known (suc replica) id at)
known_taken devices (Some id ∷ row) known =
    All-cons (λ (id : ℕ). has_device id devices ≡ true) id (devices_on row) (known zero id refl)
    (known_taken devices row (λ replica id at. known (suc replica) id at))

-- one more seat
devices_more : (seats : List (Option ℕ)) (i : ℕ) (seat : Option ℕ) → i < length seats →
    get_or seats i None ≡ seat
    → devices_on (take (i + 1) seats) ≡ devices_on (take i seats) ++ devices_on (seat ∷ [])
devices_more seats i seat lt is =
    ap devices_on (take_more seats i None lt) ∙ filter_map-append (λ (s : Option ℕ). s)
    (take i seats) (get_or seats i None ∷ []) ∙ ap (λ s. devices_on (take i seats) ++
    devices_on (s ∷ [])) is

pub devices_more_some : (seats : List (Option ℕ)) (i id : ℕ) → i < length seats →
    get_or seats i None ≡ Some id → devices_on (take (i + 1) seats) ≡ devices_on (take i seats) ++
    id ∷ []
devices_more_some seats i id lt is = devices_more seats i (Some id) lt is

pub devices_more_none : (seats : List (Option ℕ)) (i : ℕ) → i < length seats →
    get_or seats i None ≡ None → devices_on (take (i + 1) seats) ≡ devices_on (take i seats)
devices_more_none seats i lt is = devices_more seats i None lt is ∙ append-nil
    (devices_on (take i seats))
