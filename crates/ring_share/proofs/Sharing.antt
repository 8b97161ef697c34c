-- Shares of seats by weight.
use Rattle.std.proofs.Common.{◌≡◌, ◌≢◌, ◌==◌, ℕ, zero, suc, ◌+◌, ◌*◌, ◌/◌, ◌<◌, ◌≤◌, true}
use Rattle.std.proofs.Common.{false, true≢false, replicate, List, [], ◌∷◌, length, get_or}
use Rattle.std.proofs.Common.{set, map, sum, Option, Some, None, refl, sym, ap, ◌∙◌, subst, ⊎_elim}
use Rattle.std.proofs.Common.{arith}
use Rattle.std.specs.Prelude.{slice_get, slice_index, if◌then◌else◌}
use Rattle.std.specs.List.{list_any}
use Rattle.std.specs.List.Sorted.{IsStrictlyIncreasing}
use Rattle.std.proofs.lemmas.Bool.{and_parts, cases_lt, cases_eq, cases_Bool, cond-false, cond-true}
use Rattle.std.proofs.lemmas.Bool.{eq-eqb, eqb-true}
use Rattle.std.proofs.lemmas.Bool.Decides.{nat_tests}
use Rattle.std.proofs.lemmas.List.{get_or-set_same, get_or-set_other, get_or-map, length-map}
use Rattle.std.proofs.lemmas.List.{length-set, length-replicate, get_or-replicate}
use Rattle.std.proofs.lemmas.List.Folds.{Any-from_list_any}
use Rattle.std.proofs.lemmas.List.Sums.{sum_by-cons, get_or-le-sum_by}
use Rattle.std.proofs.lemmas.List.Kept.{AllPairs-from_increasing}
use Rattle.std.proofs.lemmas.Option.{slice_get_within, get_or_from_slice_get, slice_get-get_or}
use Rattle.std.proofs.lemmas.Option.{same_Some}
use Rattle.std.proofs.Math.Nat.{mul-add, add-mul, div-mul-le_self, lt-div-mul-add, mul-le-mul_right}
use Rattle.ring_model.specs.Ring.{RingRecord}
use Rattle.ring_model.specs.Valid.{IsValid}
use Rattle.ring_words.specs.declared.device.Device.{Device}
use Rattle.ring_share.specs.Want.{is_open, open_weight, total_weight, seat_count, whole_share}
use Rattle.ring_share.specs.Want.{share_rest, AreShares, AreWanted}
use Rattle.ring_share.specs.Inner.Turns.{waits, is_waiting, ComesBefore}

-- numbers of devices rise with their places
pub ids_rise : (devices : List Device) → IsStrictlyIncreasing (map (λ device. device.id) devices) →
    (i j : ℕ) (a b : Device) → i < j
    → slice_get devices i ≡ Some a → slice_get devices j ≡ Some b → a.id < b.id
ids_rise devices rise i j a b lt at bt =
    let ids = map (λ (device : Device). device.id) devices in
    let within : j < length devices = slice_get_within devices j b bt in
    let below : j < length ids = rw (length-map devices (λ (device : Device). device.id)) within in
    let less = AllPairs-from_increasing ids rise i j 0 lt below in
    let one : get_or ids i 0 ≡ a.id = get_or-map (λ (device : Device). device.id) devices i a 0
    (omega arith) ∙ ap (λ (device : Device). device.id) (get_or_from_slice_get devices i a a at)
    in
    let other : get_or ids j 0 ≡ b.id = get_or-map (λ (device : Device). device.id) devices j b 0
    within ∙ ap (λ (device : Device). device.id) (get_or_from_slice_get devices j b b bt) in
    rw (one, other) at less

-- ---- the sums of shares

open_weight_open : (device : Device) → is_open device ≡ true →
    open_weight device ≡ device.row.weight
open_weight_open device h = cond-true (is_open device) device.row.weight 0 h

open_weight_closed : (device : Device) → is_open device ≡ false → open_weight device ≡ 0
open_weight_closed device h = cond-false (is_open device) device.row.weight 0 h

-- whole seats of shares are at most the seats
pub floors_le : (seats total : ℕ) (devices : List Device)
    → sum (map (λ device. if is_open device then seats * device.row.weight / total else 0) devices)
    * total ≤ seats * total_weight devices
floors_le seats total [] = omega arith
floors_le seats total (device ∷ devices) =
    let floor : Device → ℕ = λ device. if is_open device then seats * device.row.weight / total else
    0 in
    let rest = floors_le seats total devices in
    let first : floor device * total ≤ seats * open_weight device = floor_le device in
    let weights = sum_by-cons open_weight device devices in
    let sums = sum_by-cons (λ (x : ℕ). x) (floor device) (map floor devices) in
    rw (sums, weights, add-mul, mul-add) (omega (arith, rest, first))
  where
    floor_le : (device : Device) → (if is_open device then seats * device.row.weight / total else
        0) * total ≤ seats * open_weight device
    floor_le device = ⊎_elim
        (λ yes. rw (
          cond-true (is_open device) (seats * device.row.weight / total) 0 yes,
          open_weight_open device yes,
        ) (div-mul-le_self (seats * device.row.weight) total))
        (λ no. rw (cond-false (is_open device) (seats * device.row.weight / total) 0 no)
        (omega arith))
        (cases_Bool (is_open device))

-- Each open device has more than its share.
abbrev AreOver : ℕ → ℕ → List Device → List ℕ → Type 0
AreOver seats total devices given = (place : ℕ) (device : Device) → slice_get devices place ≡ Some
    device → is_open device ≡ true → seats * device.row.weight < slice_index given place * total

over_le : (seats total : ℕ) (devices : List Device) (given : List ℕ) →
    length given ≡ length devices → AreOver seats total devices given
    → seats * total_weight devices ≤ sum given * total
over_le seats total [] [] same over = omega arith
over_le seats total [] (x ∷ given) same over = absurd (omega arith)
over_le seats total (device ∷ devices) [] same over = absurd (omega arith)
over_le seats total (device ∷ devices) (x ∷ given) same over =
    let rest = over_le seats total devices given (omega arith) (λ place. over (suc place)) in
    let first : seats * open_weight device ≤ x * total = ⊎_elim
    (λ yes. let lt = over zero device refl yes in rw (open_weight_open device yes)
    (omega (arith, lt)))
    (λ no. rw (open_weight_closed device no) (omega arith))
    (cases_Bool (is_open device)) in
    let weights = sum_by-cons open_weight device devices in
    let sums = sum_by-cons (λ (x : ℕ). x) x given in
    rw (sums, weights, add-mul, mul-add) (omega (arith, rest, first))

over_lt : (seats total : ℕ) (devices : List Device) (given : List ℕ) →
    length given ≡ length devices → AreOver seats total devices given
    → 0 < total_weight devices → seats * total_weight devices < sum given * total
over_lt seats total [] given same over some = absurd (omega arith)
over_lt seats total (device ∷ devices) [] same over some = absurd (omega arith)
over_lt seats total (device ∷ devices) (x ∷ given) same over some =
    let weights = sum_by-cons open_weight device devices in
    let sums = sum_by-cons (λ (x : ℕ). x) x given in
    rw (sums, weights, add-mul, mul-add) (⊎_elim
    (λ yes.
    let lt = over zero device refl yes in
    let le = over_le seats total devices given (omega arith) (λ place. over (suc place)) in
    rw (open_weight_open device yes) (omega (arith, lt, le)))
    (λ no.
    let none = open_weight_closed device no in
    let rest = over_lt seats total devices given (omega arith) (λ place. over (suc place))
    (omega (arith, weights, none)) in
    rw none (omega (arith, rest)))
    (cases_Bool (is_open device)))

-- a device whose share is no more than its whole seats waits
waiting_at : (ring : RingRecord) (given : List ℕ) (place : ℕ) (device : Device) →
    slice_get ring.devices place ≡ Some device → is_open device ≡ true
    → slice_index given place ≡ whole_share ring device → is_waiting ring given place ≡ true
waiting_at ring given place device at opened same =
    rw (at, opened, same) (eq-eqb (whole_share ring device) (whole_share ring device) refl)

-- where no device waits, all seats and more are given
pub none_waits : (ring : RingRecord) (given : List ℕ) → 0 < total_weight ring.devices →
    AreShares ring given
    → ((place : ℕ) → place < length given → is_waiting ring given place ≡ false) →
    seat_count ring < sum given
none_waits ring given some shares none =
    let total = total_weight ring.devices in
    let over : AreOver (seat_count ring) total ring.devices given = λ place device at opened.
    let between = shares.shares place device at opened in
    let within = slice_get_within ring.devices place device at in
    let count = shares.count in
    let not_floor : slice_index given place ≢ whole_share ring device =
    λ same. true≢false (sym (waiting_at ring given place device at opened same) ∙ none place
    (omega arith)) in
    let more : slice_index given place ≡ whole_share ring device + 1 =
    omega (arith, between, not_floor) in
    rw (more, add-mul) (let lt = lt-div-mul-add {a = seat_count ring * device.row.weight} {b =
    total} some in omega (arith, lt))
    in
    let lt = over_lt (seat_count ring) total ring.devices given shares.count over some in
    ⊎_elim (λ less. less) (λ le. absurd (let h = mul-le-mul_right total le in omega (arith, lt, h)))
    (cases_lt (seat_count ring) (sum given))

-- ---- one more seat

-- what a device that waits is
record Waits (ring : RingRecord) (given : List ℕ) (place : ℕ) : Type 0 where
  device : Device
  at : slice_get ring.devices place ≡ Some device
  opened : is_open device ≡ true
  whole : slice_index given place ≡ whole_share ring device

waits_is : (ring : RingRecord) (given : List ℕ) (place : ℕ) → is_waiting ring given place ≡ true →
    Waits ring given place
waits_is ring given place = waits_of (slice_get ring.devices place) refl
  where
    waits_of : (o : Option Device) → slice_get ring.devices place ≡ o →
        waits ring (slice_index given place) o ≡ true → Waits ring given place
    waits_of None at h = absurd (true≢false (sym h))
    waits_of (Some device) at h =
        let parts = and_parts (is_open device) (slice_index given place == whole_share ring device)
        h in
        record { device = device; at = at; opened = parts.0; whole = eqb-true _ _ parts.1 }

-- the first that waits gets one more seat
pub shares_more : (ring : RingRecord) (given : List ℕ) (place : ℕ) → AreShares ring given →
    is_waiting ring given place ≡ true
    → ((other : ℕ) → other < length given → is_waiting ring given other ≡ true → other ≢ place →
    ComesBefore ring place other)
    → AreShares ring (set given place (get_or given place 0 + 1))
shares_more ring given place shares waiting first = record {
  count = length-set given place (get_or given place 0 + 1) ∙ shares.count;
  shares = λ k device at opened. ⊎_elim
      (λ same. let is = device_at k device same at in rw (here k same, is) (omega arith))
      (λ other. rw (there k other) (shares.shares k device at opened))
      (cases_eq k place);
  order = λ one other a b at bt a_open b_open more whole. ⊎_elim
      (λ same. absurd (let is = device_at other b same bt in omega (
        arith,
        here other same,
        whole,
        is,
      )))
      (λ ne. let whole' = sym (there other ne) ∙ whole in ⊎_elim
      (λ same. first other (within other b bt) (waiting_at ring given other b bt b_open whole') ne a
      b (ap (slice_get ring.devices) (sym same) ∙ at) bt)
      (λ apart. shares.order one other a b at bt a_open b_open (sym (there one apart) ∙ more)
      whole')
      (cases_eq one place))
      (cases_eq other place);
  closed = λ k device at closed. ⊎_elim
      (λ same. let is = device_at k device same at in
      absurd (true≢false (sym w.opened ∙ ap is_open (sym is.0) ∙ closed)))
      (λ other. there k other ∙ shares.closed k device at closed)
      (cases_eq k place);
}
  where
    w : Waits ring given place
    w = waits_is ring given place waiting

    within : (k : ℕ) (device : Device) → slice_get ring.devices k ≡ Some device → k < length given
    within k device at = let lt = slice_get_within ring.devices k device at in
        omega (arith, lt, shares.count)

    here : (k : ℕ) → k ≡ place → get_or (set given place (get_or given place 0 + 1)) k 0 ≡ get_or
        given place 0 + 1
    here k same = rw same (get_or-set_same given place (get_or given place 0 + 1) 0
        (within place w.device w.at))

    there : (k : ℕ) → k ≢ place → get_or (set given place (get_or given place 0 + 1)) k 0 ≡ get_or
        given k 0
    there k ne = get_or-set_other given place k (get_or given place 0 + 1) 0 ne

    device_at : (k : ℕ) (device : Device) → k ≡ place → slice_get ring.devices k ≡ Some device →
        (device ≡ w.device) × (get_or given place 0 ≡ whole_share ring device)
    device_at k device same at =
        let is = same_Some device w.device (sym at ∙ ap (slice_get ring.devices) same ∙ w.at) in
        (is, w.whole ∙ ap (whole_share ring) (sym is))

-- the device at an earlier place comes first, if it has no less beyond whole seats
pub comes_first : (ring : RingRecord) (earlier place : ℕ) (a b : Device) → IsValid ring →
    earlier < place → a ≡ get_or ring.devices earlier a → b ≡ get_or ring.devices place b
    → share_rest ring b ≤ share_rest ring a → ComesBefore ring earlier place
comes_first ring earlier place a b valid lt at bt rest first second first_at second_at =
    let one : a ≡ first = at ∙ get_or_from_slice_get ring.devices earlier first a first_at in
    let other : b ≡ second = bt ∙ get_or_from_slice_get ring.devices place second b second_at in
    record {
      rest = subst (λ d. share_rest ring second ≤ share_rest ring d) one
          (subst (λ d. share_rest ring d ≤ share_rest ring a) other rest);
      tie = λ same. ids_rise ring.devices valid.devices.rise earlier place first second lt first_at
          second_at;
    }

-- ---- the first shares

pub weighs : (device : Device) → is_open device ≡ true → 0 < device.row.weight
weighs device opened = grind (arith, nat_tests)

open_weighs : (devices : List Device) (place : ℕ) (device : Device) → slice_get devices place ≡ Some
    device → is_open device ≡ true → 0 < total_weight devices
open_weighs devices place device at opened =
    let within = slice_get_within devices place device at in
    let le = get_or-le-sum_by open_weight devices place device within in
    let is : open_weight (get_or devices place device) ≡ device.row.weight =
    ap open_weight (get_or_from_slice_get devices place device device at) ∙ open_weight_open
    device opened in
    let some : 0 < device.row.weight = weighs device opened in
    omega (arith, le, is, some)

some_open : (devices : List Device) → list_any is_open devices ≡ true → 0 < total_weight devices
some_open devices some =
    let found = Any-from_list_any is_open devices some in
    open_weighs devices found.0 found.1 (slice_get-get_or devices found.0 found.1 found.2 ∙ ap Some
    found.3) found.4

-- where the devices weigh nothing, none wants a seat
pub none_wanted : (ring : RingRecord) (wanted : List ℕ) → total_weight ring.devices ≡ 0 →
    wanted ≡ replicate (length ring.devices) 0 → AreWanted ring wanted
none_wanted ring wanted nothing zeroes = record {
  shares = record {
    count = ap length zeroes ∙ length-replicate (length ring.devices) 0;
    shares = λ place device at opened. absurd (no place device at opened);
    order = λ one other a b at bt a_open b_open. absurd (no one a at a_open);
    closed = λ place device at closed. ap (λ xs. get_or xs place 0) zeroes ∙ get_or-replicate
        (length ring.devices) place 0 0 (slice_get_within ring.devices place device at);
  };
  total = λ some. absurd (let h = some_open ring.devices some in omega (arith, h, nothing));
}
  where
    no : (place : ℕ) (device : Device) → slice_get ring.devices place ≡ Some device →
        is_open device ≡ true → ⊥
    no place device at opened = let h = open_weighs ring.devices place device at opened in
        omega (arith, h, nothing)

-- the whole seats of the shares
abbrev floors : RingRecord → List ℕ
floors ring = map (λ device. if is_open device then whole_share ring device else 0) ring.devices

floor_at : (ring : RingRecord) (place : ℕ) (device : Device) → slice_get ring.devices place ≡ Some
    device → get_or (floors ring) place 0 ≡ (if is_open device then whole_share ring device else 0)
floor_at ring place device at =
    let floor : Device → ℕ = λ device. if is_open device then whole_share ring device else 0 in
    get_or-map floor ring.devices place device 0 (slice_get_within ring.devices place device at) ∙
    ap floor (get_or_from_slice_get ring.devices place device device at)

open_floor_at : (ring : RingRecord) (place : ℕ) (device : Device) → slice_get ring.devices place ≡
    Some device → is_open device ≡ true → get_or (floors ring) place 0 ≡ whole_share ring device
open_floor_at ring place device at opened = floor_at ring place device at ∙ cond-true (is_open device)
    (whole_share ring device) 0 opened

pub floors_are_shares : (ring : RingRecord) → AreShares ring (floors ring)
floors_are_shares ring = record {
  count = length-map ring.devices (λ device. if is_open device then whole_share ring device else 0);
  shares = λ place device at opened. rw (open_floor_at ring place device at opened) (omega arith);
  order = λ one other a b at bt a_open b_open more whole. absurd (let is =
      open_floor_at ring one a at a_open in omega (arith, is, more));
  closed = λ place device at closed. floor_at ring place device at ∙ cond-false (is_open device)
      (whole_share ring device) 0 closed;
}

pub floors_fit : (ring : RingRecord) → 0 < total_weight ring.devices →
    sum (floors ring) ≤ seat_count ring
floors_fit ring some =
    let le = floors_le (seat_count ring) (total_weight ring.devices) ring.devices in
    ⊎_elim (λ less. absurd (over (seat_count ring) (sum (floors ring)) (total_weight ring.devices)
    some less le)) (λ ge. ge) (cases_lt (seat_count ring) (sum (floors ring)))
  where
    over : (seats given total : ℕ) → 0 < total → seats < given → given * total ≤ seats * total → ⊥
    over seats given total some less le =
        let h : (seats + 1) * total ≤ given * total = mul-le-mul_right total (omega (arith, less))
        in
        omega (arith, h, le, some, add-mul seats 1 total)
