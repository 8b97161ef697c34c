-- The places of the devices of a partition's seats.
use Rattle.std.proofs.Common.{◌≡◌, ◌≢◌, ◌==◌, ℕ, zero, suc, ◌+◌, ◌<◌, Bool, true}
use Rattle.std.proofs.Common.{cond, ◌&&◌, List, [], ◌∷◌, length}
use Rattle.std.proofs.Common.{count_by, Option, Some, None, IfSome, refl, sym, ap, subst, ◌∙◌}
use Rattle.std.proofs.Common.{arith}
use Rattle.std.specs.Prelude.{slice_get}
use Rattle.std.proofs.lemmas.List.Sums.{sum_by-cons}
use Rattle.ring_model.specs.Ring.{has_present}
use Rattle.ring_words.specs.declared.device.Device.{Device}
use Rattle.ring_share.specs.Crowd.{is_less, is_on, seats_on, tiers_of}
use Rattle.ring_room.specs.Load.{Load, crowd_in, has_room_in, is_free_in}
use Rattle.ring_room.specs.Places.{id_at, seats_at}
use Rattle.ring_room.specs.Inner.Places.{ArePlacesOf}
use Rattle.ring_place.specs.Inner.Placing.{IsChosen}
use Rattle.ring_room.specs.Rows.{is_empty}

-- ---- what a partition's seats are for a device, those at the places are

-- As many of the one seats as of the other are on devices that pass a test.
abbrev pub AreAlike : List (Option ℕ) → List (Option ℕ) → Type 0
AreAlike one other = (test : ℕ → Bool) → count_by (is_on test) one ≡ count_by (is_on test) other

free_alike : (load : Load) (one other : List (Option ℕ)) (id : ℕ) → AreAlike one other →
    is_free_in load one id ≡ is_free_in load other id
free_alike load one other id alike = ap (λ (n : ℕ). has_room_in load id && (n == 0))
    (alike (λ x. x == id))

crowd_alike : (load : Load) (one other : List (Option ℕ)) (id : ℕ) → AreAlike one other →
    crowd_in load one id ≡ crowd_in load other id
crowd_alike load one other id alike =
    rw (
      alike ((tiers_of load.devices).region id),
      alike ((tiers_of load.devices).zone id),
      alike ((tiers_of load.devices).server id),
    ) refl

pub chosen_alike : (load : Load) (at row : List (Option ℕ)) (own : Option ℕ) (id : ℕ) →
    AreAlike at row → IsChosen load at own id → IsChosen load row own id
chosen_alike load at row own id alike is =
    let crowd = λ (x : ℕ). crowd_alike load at row x alike in
    let free = λ (x : ℕ). free_alike load at row x alike in
    record {
      known = is.known;
      outside = sym (alike (λ other. other == id)) ∙ is.outside;
      may_take = is.may_take;
      least = λ other passes. ap (λ c. is_less c (crowd_in load row id)) (sym (crowd other))
          ∙ ap (λ c. is_less (crowd_in load at other) c) (sym (crowd id))
          ∙ is.least other (free other ∙ passes);
      own_wins = λ from is_own passes ne. ap (λ c. is_less c (crowd_in load row from))
          (sym (crowd id))
          ∙ ap (λ c. is_less (crowd_in load at id) c) (sym (crowd from))
          ∙ is.own_wins from is_own (free from ∙ passes) ne;
      free = λ other passes. sym (free id) ∙ is.free other (free other ∙ passes);
      stays = subst (λ b. IfSome own (λ from. has_present from load.devices ≡ true → id ≢ from →
          b ≡ true)) (free id) is.stays;
    }

pub apart_alike : (devices : List Device) (at row : List (Option ℕ)) (own : Option ℕ) →
    AreAlike at row → IfSome own (λ id. has_present id devices ≡ true → seats_on id row ≡ 0) →
    IfSome own (λ id. has_present id devices ≡ true → seats_on id at ≡ 0)
apart_alike devices at row None alike apart = tt
apart_alike devices at row (Some id) alike apart = λ present. alike (λ other. other == id) ∙ apart
    present

-- ---- the places of a partition's seats

-- ---- how many they are

all_on : (devices : List Device) (places : List ℕ) → count_by (is_on (λ id. true))
    (seats_at devices places) ≡ length places
all_on devices [] = refl
all_on devices (place ∷ places) =
    let one = sum_by-cons (λ (s : Option ℕ). cond (is_on (λ (id : ℕ). true) s) 1 0)
    (Some (id_at devices place)) (seats_at devices places) in
    omega (arith, one, all_on devices places)

count_on : (row : List (Option ℕ)) → count_by (is_on (λ id. true)) row + count_by is_empty row ≡
    length row
count_on [] = refl
count_on (None ∷ row) =
    let one = sum_by-cons (λ (s : Option ℕ). cond (is_on (λ (id : ℕ). true) s) 1 0) None row in
    let other = sum_by-cons (λ (s : Option ℕ). cond (is_empty s) 1 0) None row in
    omega (arith, one, other, count_on row)
count_on (Some id ∷ row) =
    let one = sum_by-cons (λ (s : Option ℕ). cond (is_on (λ (id : ℕ). true) s) 1 0) (Some id) row in
    let other = sum_by-cons (λ (s : Option ℕ). cond (is_empty s) 1 0) (Some id) row in
    omega (arith, one, other, count_on row)

pub some_empty : (row : List (Option ℕ)) (n : ℕ) → slice_get row n ≡ Some None →
    0 < count_by is_empty row
some_empty [] n empty = absurd (cc)
some_empty (None ∷ row) zero empty =
    let one = sum_by-cons (λ (s : Option ℕ). cond (is_empty s) 1 0) None row in
    omega (arith, one)
some_empty (Some id ∷ row) zero empty = absurd (cc)
some_empty (seat ∷ row) (suc n) empty =
    let one = sum_by-cons (λ (s : Option ℕ). cond (is_empty s) 1 0) seat row in
    omega (arith, one, some_empty row n empty)

-- a partition with an empty seat has more seats than they are
pub fewer_places : (devices : List Device) (row : List (Option ℕ)) (places : List ℕ) (n : ℕ) →
    ArePlacesOf devices row places → slice_get row n ≡ Some None → length places < length row
fewer_places devices row places n are empty = omega (
  arith,
  all_on devices places,
  are.alike (λ id. true),
  count_on row,
  some_empty row n empty,
)
