-- The devices that remain, beside all devices of a ring: those that aren't marked to be removed.
use Rattle.std.proofs.Common.{◌≡◌, ◌==◌, ℕ, zero, suc, ◌+◌, ◌*◌, ◌/◌, ◌%◌, ◌^◌, ◌<◌, Bool, true}
use Rattle.std.proofs.Common.{false, not, cond, ◌&&◌, ◌||◌, List, [], ◌∷◌, length, get_or, map}
use Rattle.std.proofs.Common.{Some, refl, sym, ap, subst, ◌∙◌, inl, inr, arith, slice_get}
use Rattle.std.specs.Prelude.{nat_lt, slice_index, sum, if◌then◌else◌}
use Rattle.std.specs.List.{filter, list_any}
use Rattle.std.specs.List.Sorted.{IsStrictlyIncreasing}
use Rattle.std.proofs.lemmas.Bool.{cases_Bool, eq-eqb, eqb-true}
use Rattle.std.proofs.lemmas.List.Folds.{Any-from_list_any, list_any_at}
use Rattle.std.proofs.lemmas.List.Sums.{sum_by-cons}
use Rattle.ring_model.specs.Ring.{RingRecord, has_device, has_present}
use Rattle.ring_words.specs.declared.device.Device.{Device}
use Rattle.ring_share.specs.Crowd.{device_by_id}
use Rattle.ring_share.specs.Room.{has_open, place_of}
use Rattle.ring_share.specs.Want.{AreShares, AreWanted, IsBefore, is_open, open_weight, seat_count}
use Rattle.ring_share.specs.Want.{share_rest, total_weight, whole_share}
use Rattle.ring_room.proofs.Searching.DevicesAt.{present_at}
use Rattle.ring_place.proofs.Placing.Filling.{stands, stands_any}

abbrev pub stays : Device → Bool
stays device = not device.removed

abbrev pub remaining : List Device → List Device
remaining devices = filter (λ device. not device.removed) devices

-- the wants of those that remain
pub wants_left : List Device → List ℕ → List ℕ
wants_left [] wanted = []
wants_left (device ∷ devices) [] = []
wants_left (device ∷ devices) (want ∷ wanted) = if device.removed then
    wants_left devices wanted else want ∷ wants_left devices wanted

-- No device of this number is marked to be removed.
abbrev pub Remains : ℕ → List Device → Type 0
Remains id devices = (place : ℕ) (x : Device) → slice_get devices place ≡ Some x → x.id ≡ id →
    x.removed ≡ false

not_false : (b : Bool) → not b ≡ true → b ≡ false
not_false true h = absurd (cc h)
not_false false h = refl

pub present_remains : (devices : List Device) →
    IsStrictlyIncreasing (map (λ device. device.id) devices) → (id : ℕ) →
    has_present id devices ≡ true → Remains id devices
present_remains devices rise id present place x at named =
    not_false x.removed (sym (present_at devices rise place x at) ∙ ap (λ n. has_present n devices)
    named ∙ present)

rest_remains : (id : ℕ) (device : Device) (devices : List Device) → Remains id (device ∷ devices) →
    Remains id devices
rest_remains id device devices clean place x at named = clean (suc place) x at named

-- a device that is marked has another number
other_number : (id : ℕ) (device : Device) (devices : List Device) → Remains id (device ∷ devices) →
    device.removed ≡ true → (device.id == id) ≡ false
other_number id device devices clean marked = which (device.id == id) refl
  where
    which : (b : Bool) → (device.id == id) ≡ b → (device.id == id) ≡ false
    which false is = is
    which true is = absurd (let stays = clean zero device refl (eqb-true _ _ is) in
        cc (stays, marked))

without : (device : Device) (devices : List Device) → device.removed ≡ true →
    remaining (device ∷ devices) ≡ remaining devices
without device devices marked =
    ap (λ b. cond (not b) (device ∷ remaining devices) (remaining devices)) marked

with_first : (device : Device) (devices : List Device) → device.removed ≡ false →
    remaining (device ∷ devices) ≡ device ∷ remaining devices
with_first device devices kept =
    ap (λ b. cond (not b) (device ∷ remaining devices) (remaining devices)) kept

pub device_of_remaining : (id : ℕ) (devices : List Device) → Remains id devices →
    device_by_id id (remaining devices) ≡ device_by_id id devices
device_of_remaining id [] clean = refl
device_of_remaining id (device ∷ devices) clean =
    let rest = device_of_remaining id devices (rest_remains id device devices clean) in
    elim (cases_Bool device.removed) [
      | inl marked ↦ ap (device_by_id id) (without device devices marked) ∙ rest ∙ ap
          (λ b. cond b (Some device) (device_by_id id devices))
          (sym (other_number id device devices clean marked))
      | inr kept ↦ ap (device_by_id id) (with_first device devices kept) ∙ ap
          (λ found. cond (device.id == id) (Some device) found) rest
    ]

pub open_remaining : (id : ℕ) (devices : List Device) → has_open id (remaining devices) ≡ has_open
    id devices
open_remaining id [] = refl
open_remaining id (device ∷ devices) = elim (cases_Bool device.removed) [
  | inl marked ↦ rw marked (open_remaining id devices ∙ sym (shut (device.id == id)
      (has_open id devices)))
  | inr kept ↦ rw kept (ap (λ more. ((device.id == id) && nat_lt 0 device.row.weight) ||
      more) (open_remaining id devices))
]
  where
    shut : (b more : Bool) → ((b && false) || more) ≡ more
    shut true more = refl
    shut false more = refl

pub present_remaining : (id : ℕ) (devices : List Device) → has_device id (remaining devices) ≡
    has_present id devices
present_remaining id [] = refl
present_remaining id (device ∷ devices) = elim (cases_Bool device.removed) [
  | inl marked ↦ rw marked (present_remaining id devices ∙ sym (shut (device.id == id)
      (has_present id devices)))
  | inr kept ↦ rw kept (rw (present_remaining id devices) (same (device.id == id)
      (has_present id devices)))
]
  where
    shut : (b more : Bool) → ((b && false) || more) ≡ more
    shut true more = refl
    shut false more = refl

    same : (b more : Bool) → (b || more) ≡ ((b && true) || more)
    same true more = refl
    same false more = refl

pub length-wants_left : (devices : List Device) (wanted : List ℕ) → length wanted ≡ length devices →
    length (wants_left devices wanted) ≡ length (remaining devices)
unfolding wants_left
length-wants_left [] wanted long = refl
length-wants_left (device ∷ devices) [] long = absurd (omega (arith, long))
length-wants_left (device ∷ devices) (want ∷ wanted) long = elim (cases_Bool device.removed) [
  | inl marked ↦ rw marked (length-wants_left devices wanted (omega (arith, long)))
  | inr kept ↦ rw kept (let rest = length-wants_left devices wanted (omega (arith, long)) in
      omega (arith, rest))
]

pub want_remaining : (id : ℕ) (devices : List Device) (wanted : List ℕ) →
    length wanted ≡ length devices → Remains id devices
    → slice_index (wants_left devices wanted) (place_of id (remaining devices)) ≡ slice_index wanted
    (place_of id devices)
unfolding wants_left
want_remaining id [] [] long clean = refl
want_remaining id [] (want ∷ wanted) long clean = absurd (omega (arith, long))
want_remaining id (device ∷ devices) [] long clean = absurd (omega (arith, long))
want_remaining id (device ∷ devices) (want ∷ wanted) long clean =
    let rest = want_remaining id devices wanted (omega (arith, long)) (rest_remains id device
    devices clean) in
    elim (cases_Bool device.removed) [
      | inl marked ↦ let other = other_number id device devices clean marked in
          rw (marked, other) (rest ∙ sym (next want wanted (place_of id devices)))
      | inr kept ↦ rw kept (here (device.id == id) rest)
    ]
  where
    next : (w : ℕ) (ws : List ℕ) (k : ℕ) → slice_index (w ∷ ws) (1 + k) ≡ slice_index ws k
    next w ws k = let one : 1 + k ≡ suc k = omega arith in ap (λ i. get_or (w ∷ ws) i 0) one

    here : (b : Bool) → slice_index (wants_left devices wanted) (place_of id (remaining devices)) ≡
        slice_index wanted (place_of id devices)
        → slice_index (want ∷ wants_left devices wanted)
        (cond (not b) (1 + place_of id (remaining devices)) 0) ≡ slice_index (want ∷ wanted)
        (cond (not b) (1 + place_of id devices) 0)
    here true rest = refl
    here false rest = next want (wants_left devices wanted) (place_of id (remaining devices)) ∙ rest
        ∙ sym (next want wanted (place_of id devices))

-- ---- the wants are wanted

pub weight_remaining : (devices : List Device) → total_weight (remaining devices) ≡ total_weight
    devices
weight_remaining [] = refl
weight_remaining (device ∷ devices) =
    let all = sum_by-cons open_weight device devices in
    let rest = weight_remaining devices in
    elim (cases_Bool device.removed) [
      | inl marked ↦ let none : open_weight device ≡ 0 = rw marked refl in let less =
          ap total_weight (without device devices marked) in omega (arith, all, none, rest, less)
      | inr kept ↦ let some = sum_by-cons open_weight device (remaining devices) in let same =
          ap total_weight (with_first device devices kept) in omega (arith, all, some, rest, same)
    ]

wants_without : (device : Device) (devices : List Device) (want : ℕ) (wanted : List ℕ) →
    device.removed ≡ true → wants_left (device ∷ devices) (want ∷ wanted) ≡ wants_left devices
    wanted
unfolding wants_left
wants_without device devices want wanted marked =
    ap (λ b. cond b (wants_left devices wanted) (want ∷ wants_left devices wanted)) marked

wants_with : (device : Device) (devices : List Device) (want : ℕ) (wanted : List ℕ) →
    device.removed ≡ false → wants_left (device ∷ devices) (want ∷ wanted) ≡ want ∷
    wants_left devices wanted
unfolding wants_left
wants_with device devices want wanted kept = ap (λ b. cond b (wants_left devices wanted) (want ∷
    wants_left devices wanted)) kept

-- where a device that remains stands among all, with its want
pub record Origin (devices : List Device) (wanted : List ℕ) (place : ℕ) (x : Device) : Type 0 where
  pub from : ℕ
  pub at : slice_get devices from ≡ Some x
  pub want : slice_index (wants_left devices wanted) place ≡ slice_index wanted from

pub origin : (devices : List Device) (wanted : List ℕ) → length wanted ≡ length devices →
    (place : ℕ) (x : Device) → slice_get (remaining devices) place ≡ Some x →
    Origin devices wanted place x
unfolding wants_left
origin [] wanted long place x at = absurd (cc at)
origin (device ∷ devices) [] long place x at = absurd (omega (arith, long))
origin (device ∷ devices) (want ∷ wanted) long place x at = elim (cases_Bool device.removed) [
  | inl marked ↦ let at' = ap (λ ds. slice_get ds place) (sym (without device devices marked)) ∙ at
      in let rest = origin devices wanted (omega (arith, long)) place x at' in
      record {
        from = suc rest.from;
        at = rest.at;
        want = ap (λ ws. slice_index ws place)
            (wants_without device devices want wanted marked) ∙ rest.want;
      }
  | inr kept ↦ after (origin devices wanted (omega (arith, long))) (wants_with device devices want
      wanted kept) place (ap (λ ds. slice_get ds place) (sym (with_first device devices kept)) ∙ at)
]
  where
    after : ((k : ℕ) (y : Device) → slice_get (remaining devices) k ≡ Some y →
        Origin devices wanted k y) → wants_left (device ∷ devices) (want ∷ wanted) ≡ want ∷
        wants_left devices wanted
        → (k : ℕ) → slice_get (device ∷ remaining devices) k ≡ Some x →
        Origin (device ∷ devices) (want ∷ wanted) k x
    after more wants zero at = record {
      from = zero;
      at = at;
      want = ap (λ ws. slice_index ws zero)
          wants;
    }
    after more wants (suc k) at = let rest = more k x at in record {
      from = suc rest.from;
      at =
          rest.at;
      want = ap (λ ws. slice_index ws (suc k)) wants ∙ rest.want;
    }

-- those that go want nothing
sum_left : (devices : List Device) (wanted : List ℕ) → length wanted ≡ length devices →
    ((place : ℕ) (x : Device) → slice_get devices place ≡ Some x → is_open x ≡ false →
    slice_index wanted place ≡ 0)
    → sum (wants_left devices wanted) ≡ sum wanted
unfolding wants_left
sum_left [] [] long closed = refl
sum_left [] (want ∷ wanted) long closed = absurd (omega (arith, long))
sum_left (device ∷ devices) [] long closed = absurd (omega (arith, long))
sum_left (device ∷ devices) (want ∷ wanted) long closed =
    let rest = sum_left devices wanted (omega (arith, long)) (λ place x at shut. closed (suc place)
    x at shut) in
    let all = sum_by-cons (λ (n : ℕ). n) want wanted in
    elim (cases_Bool device.removed) [
      | inl marked ↦ let none : want ≡ 0 = closed zero device refl (rw marked refl) in
          rw marked (omega (arith, rest, all, none))
      | inr kept ↦ rw kept (let some = sum_by-cons (λ (n : ℕ). n) want (wants_left devices wanted)
          in omega (arith, rest, all, some))
    ]

any_remaining : (devices : List Device) → list_any is_open (remaining devices) ≡ true →
    list_any is_open devices ≡ true
any_remaining [] h = h
any_remaining (device ∷ devices) h = elim (cases_Bool device.removed) [
  | inl marked ↦ let h' = rw marked at h in or_right (is_open device) (list_any is_open devices)
      (any_remaining devices h')
  | inr kept ↦ let h' = rw kept at h in
      rw kept (either (nat_lt 0 device.row.weight) (list_any is_open (remaining devices))
      (list_any is_open devices) h' (any_remaining devices))
]
  where
    or_right : (a b : Bool) → b ≡ true → (a || b) ≡ true
    or_right true b h = refl
    or_right false b h = h

    either : (a b c : Bool) → (a || b) ≡ true → (b ≡ true → c ≡ true) → (a || c) ≡ true
    either true b c h k = refl
    either false b c h k = k h

-- a ring with the same seats to fill, on the devices that remain
pub record IsRest (old new : RingRecord) : Type 0 where
  pub power : new.power ≡ old.power
  pub replicas : new.replicas ≡ old.replicas
  pub devices : new.devices ≡ remaining old.devices

module _ (old new : RingRecord) (rest : IsRest old new) where
  seats_same : seat_count new ≡ seat_count old
  seats_same = ap (λ (power : ℕ). 2 ^ power * new.replicas) rest.power ∙ ap
      (λ (replicas : ℕ). 2 ^ old.power * replicas) rest.replicas

  weight_same : total_weight new.devices ≡ total_weight old.devices
  weight_same = ap total_weight rest.devices ∙ weight_remaining old.devices

  share_same : (x : Device) → whole_share new x ≡ whole_share old x
  share_same x = ap (λ (n : ℕ). n * x.row.weight / total_weight new.devices) seats_same ∙ ap
      (λ (n : ℕ). seat_count old * x.row.weight / n) weight_same

  rest_same : (x : Device) → share_rest new x ≡ share_rest old x
  rest_same x = ap (λ (n : ℕ). n * x.row.weight % total_weight new.devices) seats_same ∙ ap
      (λ (n : ℕ). seat_count old * x.row.weight % n) weight_same

  before_same : (first second : Device) → IsBefore old first second → IsBefore new first second
  before_same first second before =
      let one = rest_same first in let other = rest_same second in let less = before.rest in
      record {
        rest = omega (arith, one, other, less);
        tie =
            λ same. before.tie (omega (arith, one, other, same));
      }

  at_origin : (wanted : List ℕ) → AreShares old wanted → (place : ℕ) (x : Device) →
      slice_get new.devices place ≡ Some x → Origin old.devices wanted place x
  at_origin wanted are place x at = origin old.devices wanted are.count place x
      (ap (λ (ds : List Device). slice_get ds place) (sym rest.devices) ∙ at)

  shares_left : (wanted : List ℕ) → AreShares old wanted →
      AreShares new (wants_left old.devices wanted)
  shares_left wanted are = record {
    count = length-wants_left old.devices wanted are.count ∙ ap length (sym rest.devices);
    shares = λ place x at opens.
        let from = at_origin wanted are place x at in
        let both = are.shares from.from x from.at opens in
        let share = share_same x in
        let want = from.want in
        (omega (arith, both, share, want), omega (arith, both, share, want));
    order = λ one other first second at bt opens also more whole.
        let a = at_origin wanted are one first at in
        let b = at_origin wanted are other second bt in
        let x = share_same first in let y = share_same second in
        let aw = a.want in let bw = b.want in
        before_same first second (are.order a.from b.from first second a.at b.at opens also
        (omega (arith, more, x, aw)) (omega (arith, whole, y, bw)));
    closed = λ place x at shut. let from = at_origin wanted are place x at in
        from.want ∙ are.closed from.from x from.at shut;
  }

  pub wanted_left : (wanted : List ℕ) → AreWanted old wanted →
      AreWanted new (wants_left old.devices wanted)
  wanted_left wanted are = record {
    shares = shares_left wanted are.shares;
    total = λ some.
        let all = are.total (any_remaining old.devices (ap (list_any is_open) (sym rest.devices) ∙
        some)) in
        sum_left old.devices wanted are.shares.count are.shares.closed ∙ all ∙ sym seats_same;
  }

-- ---- what some device passes

bool_ext : (a b : Bool) → (a ≡ true → b ≡ true) → (b ≡ true → a ≡ true) → a ≡ b
bool_ext true b h k = sym (h refl)
bool_ext false true h k = k refl
bool_ext false false h k = refl

-- a device of a list is there
listed : (devices : List Device) (k : ℕ) (d : Device) → k < length devices →
    has_device (get_or devices k d).id devices ≡ true
listed devices k d lt = list_any_at (λ (device : Device). device.id == (get_or devices k d).id)
    devices k d lt (eq-eqb _ _ refl)

-- and remains, where it is among those that do
pub listed_remains : (devices : List Device) (k : ℕ) (d : Device) → k < length (remaining devices) →
    has_present (get_or (remaining devices) k d).id devices ≡ true
listed_remains devices k d lt = sym (present_remaining (get_or (remaining devices) k d).id devices)
    ∙ listed (remaining devices) k d lt

-- Two tests of numbers that agree on those that remain, of which the second passes open devices
-- alone, find one alike.
pub any_alike : (devices : List Device) (test also : ℕ → Bool) →
    ((id : ℕ) → has_present id devices ≡ true → test id ≡ also id) → ((id : ℕ) → also id ≡ true →
    has_open id devices ≡ true)
    → ((id : ℕ) → has_open id devices ≡ true → has_present id devices ≡ true) →
    list_any (λ (device : Device). test device.id) (remaining devices) ≡ list_any
    (λ (device : Device). also device.id) devices
any_alike devices test also same opens present =
    bool_ext (list_any (λ (device : Device). test device.id) (remaining devices))
    (list_any (λ (device : Device). also device.id) devices)
    (λ some.
    let found = Any-from_list_any (λ (device : Device). test device.id) (remaining devices) some in
    let is : get_or (remaining devices) found.0 found.1 ≡ found.1 = found.3 in
    let there = subst (λ (d : Device). has_present d.id devices ≡ true) is (listed_remains devices
    found.0 found.1 found.2) in
    let passes = sym (same found.1.id there) ∙ found.4 in
    let s = stands is_open devices found.1.id (opens found.1.id passes) in
    stands_any is_open (λ (device : Device). also device.id) devices found.1.id s
    (ap also s.named ∙ passes))
    (λ some.
    let found = Any-from_list_any (λ (device : Device). also device.id) devices some in
    let opened = opens found.1.id found.4 in
    let s = stands is_open (remaining devices) found.1.id (open_remaining found.1.id devices ∙
    opened) in
    stands_any is_open (λ (device : Device). test device.id) (remaining devices) found.1.id s
    (ap test s.named ∙ same found.1.id (present found.1.id opened) ∙ found.4))
