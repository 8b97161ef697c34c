-- The ring that is made of whole rows.
use Rattle.std.proofs.Common.{◌≡◌, ℕ, zero, suc, ◌+◌, ◌*◌, ◌^◌, ◌<◌, Bool, not, cond, List, [], ◌∷◌}
use Rattle.std.proofs.Common.{◌++◌, length, get_or, map, count_by, sum_by, Option, Some, None, refl}
use Rattle.std.proofs.Common.{sym, ap, ◌∙◌, arith, slice_get}
use Rattle.std.specs.Prelude.{if◌then◌else◌, nat_lt, slice_index_or}
use Rattle.std.specs.List.{flat_map, range_with_len}
use Rattle.std.specs.Option.{option_eq}
use Rattle.std.proofs.Math.Dec.{eqb}
use Rattle.std.proofs.Math.Nat.{add-mul}
use Rattle.std.proofs.lemmas.List.{length-append}
use Rattle.std.proofs.lemmas.List.FromFn.{fill_by_all, get_or-map-range_with_len}
use Rattle.std.proofs.lemmas.List.FromFn.{length-map-range_with_len}
use Rattle.std.proofs.lemmas.Option.{get_or_from_slice_get, same_Some, slice_get_within}
use Rattle.ring_model.specs.Ring.{RingRecord, moved_at, partition_count, risen, seat}
use Rattle.ring_model.specs.Reseat.{reseated}
use Rattle.ring_model.specs.Valid.{IsValid}
use Rattle.ring_words.specs.Limits.{long_count}
use Rattle.ring_words.specs.declared.device.Device.{Device}
use Rattle.ring_share.specs.Crowd.{row_of, rows_of}
use Rattle.ring_place.specs.Inner.Finishing.{AreAlike, AreWhole}
use Rattle.ring_place.specs.Made.{changed_in, stamped}
use Rattle.ring_place.specs.Rebalance.{IsAfter, IsSeat, changed_seats, differs, has_changed}
use Rattle.ring_room.specs.Rows.{devices_on}
use Rattle.ring_place.specs.Made.{row_at}
use Rattle.ring_place.proofs.Rows.IndexRanges.{any_counted, count_more, count_same, one_seat}
use Rattle.ring_place.proofs.Rows.IndexRanges.{range_get, sum_same}
use Rattle.ring_place.proofs.Finishing.RemainingDevices.{remaining}
use Rattle.ring_place.proofs.ValidAfter.{AreOnRemaining, valid_after}

-- ---- changed seats

differs_is : (a b : Option ℕ) → not (option_eq eqb a b) ≡ differs a b
differs_is None None = refl
differs_is None (Some y) = refl
differs_is (Some x) None = refl
differs_is (Some x) (Some y) = refl

-- one more seat is looked at
pub changed_more : (old new : List (Option ℕ)) (n m next : ℕ) (b : Bool) →
    m ≡ count_by (λ replica. differs (get_or old replica None) (get_or new replica None))
    (range_with_len 0 n)
    → b ≡ not (option_eq eqb (get_or old n None) (get_or new n None)) → next ≡ m + cond b 1 0
    → next ≡ count_by (λ replica. differs (get_or old replica None) (get_or new replica None))
    (range_with_len 0 (n + 1))
changed_more old new n m next b is test more =
    let here : ◌≡◌ {A = ℕ} (cond b 1 0) (cond (differs (get_or old n None) (get_or new n None)) 1 0)
    = ap (λ t. cond t 1 0) (test ∙ differs_is (get_or old n None) (get_or new n None)) in
    omega (
      arith,
      is,
      more,
      here,
      count_more (λ replica. differs (get_or old replica None)
          (get_or new replica None)) n,
    )

-- ---- rows that are full

-- no seat of the row is empty
abbrev pub IsFull : List (Option ℕ) → Type 0
IsFull row = (k : ℕ) → slice_get row k ≡ Some None → ⊥

full_rest : (seat : Option ℕ) (row : List (Option ℕ)) → IsFull (seat ∷ row) → IsFull row
full_rest seat row full k at = full (suc k) at

length_full : (row : List (Option ℕ)) → IsFull row → length (devices_on row) ≡ length row
length_full [] full = refl
length_full (None ∷ row) full = absurd (full zero refl)
length_full (Some id ∷ row) full = let rest = length_full row (full_rest (Some id) row full) in
    omega (arith, rest)

pub get_full : (row : List (Option ℕ)) → IsFull row → (k id : ℕ) → slice_get row k ≡ Some (Some id) →
    slice_get (devices_on row) k ≡ Some id
get_full [] full k id at = absurd (cc at)
get_full (None ∷ row) full k id at = absurd (full zero refl)
get_full (Some x ∷ row) full zero id at = let same : x ≡ id =
    (let e = same_Some (Some x) (Some id) at in same_Some x id e) in ap Some same
get_full (Some x ∷ row) full (suc k) id at = get_full row (full_rest (Some x) row full) k id at

get_left : (xs ys : List ℕ) (k : ℕ) → k < length xs → slice_get (xs ++ ys) k ≡ slice_get xs k
get_left [] ys k lt = absurd (omega (arith, lt))
get_left (x ∷ xs) ys zero lt = refl
get_left (x ∷ xs) ys (suc k) lt = get_left xs ys k (omega (arith, lt))

get_right : (xs ys : List ℕ) (k i : ℕ) → i ≡ length xs + k → slice_get (xs ++ ys) i ≡ slice_get ys k
get_right [] ys k i is = let same : i ≡ k = omega (arith, is) in ap (slice_get ys) same
get_right (x ∷ xs) ys k zero is = absurd (omega (arith, is))
get_right (x ∷ xs) ys k (suc i) is = get_right xs ys k i (omega (arith, is))

-- rows of n seats each, none empty
pub record AreFull (n : ℕ) (rows : List (List (Option ℕ))) : Type 0 where
  pub long : (p : ℕ) → p < length rows → length (row_at rows p) ≡ n
  pub full : (p : ℕ) → p < length rows → IsFull (row_at rows p)

rest_full : (n : ℕ) (row : List (Option ℕ)) (rows : List (List (Option ℕ))) →
    AreFull n (row ∷ rows) → AreFull n rows
rest_full n row rows are = record {
  long = λ p lt. are.long (suc p) (omega (arith, lt));
  full =
      λ p lt. are.full (suc p) (omega (arith, lt));
}

first_length : (n : ℕ) (row : List (Option ℕ)) (rows : List (List (Option ℕ))) →
    AreFull n (row ∷ rows) → length (devices_on row) ≡ n
first_length n row rows are = length_full row (are.full zero (omega arith)) ∙ are.long zero
    (omega arith)

one_more : (p n : ℕ) → suc p * n ≡ n + p * n
one_more p n = (let up : suc p ≡ p + 1 = omega arith in ap (λ (k : ℕ). k * n) up) ∙ add-mul p 1 n ∙
    omega arith

length_flat : (n : ℕ) (rows : List (List (Option ℕ))) → AreFull n rows →
    length (flat_map devices_on rows) ≡ length rows * n
length_flat n [] are = omega arith
length_flat n (row ∷ rows) are =
    let first = first_length n row rows are in
    let rest = length_flat n rows (rest_full n row rows are) in
    length-append (devices_on row) (flat_map devices_on rows) ∙ omega (
      arith,
      first,
      rest,
      one_more (length rows) n,
    )

pub get_flat : (n : ℕ) (rows : List (List (Option ℕ))) → AreFull n rows → (p r : ℕ) → p < length rows →
    r < n → slice_get (flat_map devices_on rows) (p * n + r) ≡ slice_get
    (devices_on (row_at rows p)) r
get_flat n [] are p r lt below = absurd (omega (arith, lt))
get_flat n (row ∷ rows) are zero r lt below =
    let here : 0 * n + r ≡ r = omega arith in
    ap (slice_get (devices_on row ++ flat_map devices_on rows)) here ∙ get_left (devices_on row)
    (flat_map devices_on rows) r (omega (arith, below, first_length n row rows are))
get_flat n (row ∷ rows) are (suc p) r lt below =
    get_right (devices_on row) (flat_map devices_on rows) (p * n + r) (suc p * n + r)
    (omega (arith, first_length n row rows are, one_more p n))
    ∙ get_flat n rows (rest_full n row rows are) p r (omega (arith, lt)) below

-- ---- the ring

pub count_rows : (ring : RingRecord) → length (rows_of ring) ≡ partition_count ring
count_rows ring = length-map-range_with_len (λ p. row_of ring p) 0 (partition_count ring)

-- The ring has the rows' devices on its seats, and all that a rebalance writes.
pub record IsMade (ring : RingRecord) (hour : ℕ) (rows : List (List (Option ℕ))) (made : RingRecord)
    : Type 0 where
  pub devices : made.devices ≡ remaining ring.devices
  pub seats : made.seats ≡ flat_map devices_on rows
  pub moved : made.moved ≡ map (λ partition. stamped hour
      (changed_in (row_at (rows_of ring) partition) (row_at rows partition))
      (slice_index_or ring.moved partition None)) (range_with_len 0 (length (rows_of ring)))
  pub version : made.version ≡ risen ring.version
  pub rest : record made {
    version = ring.version;
    devices = ring.devices;
    seats = ring.seats;
    moved = ring.moved;
  } ≡ ring

module _ (ring : RingRecord) (hour : ℕ) (rows : List (List (Option ℕ))) (made : RingRecord)
    (valid : IsValid ring) (whole : AreWhole ring rows) (is : IsMade ring hour rows made) where
  power_same : made.power ≡ ring.power
  power_same = ap (λ (r : RingRecord). r.power) is.rest

  replicas_same : made.replicas ≡ ring.replicas
  replicas_same = ap (λ (r : RingRecord). r.replicas) is.rest

  partitions_same : partition_count made ≡ partition_count ring
  partitions_same = ap (λ (n : ℕ). 2 ^ n) power_same

  seat_of : (p r : ℕ) → p < partition_count ring → r < ring.replicas → IsSeat ring p r
  seat_of p r lt below = record { partition_there = lt; replica_there = below }

  is_full : (p : ℕ) → p < partition_count ring → IsFull (row_at rows p)
  is_full p lt k at =
      let within = slice_get_within (row_at rows p) k None at in
      let there = whole.taken p k (seat_of p k lt (omega (arith, within, whole.long p lt))) in
      let e = there.1 in cc (at, e)

  are_full : AreFull ring.replicas rows
  are_full = record {
    long = λ p lt. whole.long p (let count = whole.as_many in omega (arith, lt, count));
    full = λ p lt. is_full p (let count = whole.as_many in omega (arith, lt, count));
  }

  made_seat : (p r : ℕ) → IsSeat ring p r → (id : ℕ) → slice_get (row_at rows p) r ≡ Some (Some id)
      → seat made p r ≡ Some id
  made_seat p r s id at =
      ap (λ (seats : List ℕ). slice_get seats (p * made.replicas + r)) is.seats
      ∙ ap (λ (n : ℕ). slice_get (flat_map devices_on rows) (p * n + r)) replicas_same
      ∙ get_flat ring.replicas rows are_full p r (let lt = s.partition_there in let count =
      whole.as_many in omega (arith, lt, count)) s.replica_there
      ∙ get_full (row_at rows p) (is_full p s.partition_there) r id at

  -- what is on a seat of the rows is on the ring's seat
  row_seat : (p r : ℕ) → IsSeat ring p r → get_or (row_at rows p) r None ≡ seat made p r
  row_seat p r s = let there = whole.taken p r s in get_or_from_slice_get (row_at rows p) r
      (Some there.0) None there.1 ∙ sym (made_seat p r s there.0 there.1)

  row_same : (p : ℕ) → p < partition_count ring → row_at rows p ≡ row_of made p
  row_same p lt = fill_by_all (λ r. seat made p r) (row_at rows p) made.replicas None
      (whole.long p lt ∙ sym replicas_same)
      (λ r below. row_seat p r (seat_of p r lt (omega (arith, below, replicas_same))))

  pub rows_same : rows_of made ≡ rows
  rows_same = sym (fill_by_all (λ p. row_of made p) rows (partition_count made) []
      (whole.as_many ∙ sym partitions_same)
      (λ p lt. row_same p (omega (arith, lt, partitions_same))))

  length_seats : length made.seats ≡ partition_count ring * ring.replicas
  length_seats = ap length is.seats ∙ length_flat ring.replicas rows are_full ∙ ap
      (λ (n : ℕ). n * ring.replicas) whole.as_many

  -- ---- what is written

  old_row : (p : ℕ) → p < partition_count ring → row_at (rows_of ring) p ≡ row_of ring p
  old_row p lt = get_or-map-range_with_len (λ q. row_of ring q) 0 (partition_count ring) p p [] lt
      (omega arith)

  old_seat : (p r : ℕ) → p < partition_count ring → r < ring.replicas →
      get_or (row_at (rows_of ring) p) r None ≡ seat ring p r
  old_seat p r lt below = ap (λ row. get_or row r None) (old_row p lt) ∙ get_or-map-range_with_len
      (λ q. seat ring p q) 0 ring.replicas r r None below (omega arith)

  changed_row : (p : ℕ) → p < partition_count ring → changed_in (row_at (rows_of ring) p)
      (row_at rows p) ≡ count_by (λ r. differs (seat ring p r) (seat made p r))
      (range_with_len 0 ring.replicas)
  changed_row p lt =
      ap (λ (n : ℕ). count_by (λ r. differs (get_or (row_at (rows_of ring) p) r None)
      (get_or (row_at rows p) r None)) (range_with_len 0 n)) (ap length (old_row p lt) ∙
      length-map-range_with_len (λ q. seat ring p q) 0 ring.replicas)
      ∙ count_same (λ r. differs (get_or (row_at (rows_of ring) p) r None) (get_or (row_at rows p) r
      None)) (λ r. differs (seat ring p r) (seat made p r)) ring.replicas
      (λ r below. ap (λ a. differs a (get_or (row_at rows p) r None)) (old_seat p r lt below) ∙ ap
      (differs (seat ring p r)) (row_seat p r (seat_of p r lt below)))

  pub made_changed : sum_by (λ partition. changed_in (row_at (rows_of ring) partition)
      (row_at rows partition)) (range_with_len 0 (length (rows_of ring))) ≡ changed_seats ring made
  made_changed =
      ap (λ (n : ℕ). sum_by (λ partition. changed_in (row_at (rows_of ring) partition)
      (row_at rows partition)) (range_with_len 0 n)) (count_rows ring)
      ∙ sum_same (λ partition. changed_in (row_at (rows_of ring) partition) (row_at rows partition))
      (λ p. count_by (λ r. differs (seat ring p r) (seat made p r))
      (range_with_len 0 ring.replicas)) (partition_count ring) changed_row

  made_moved : (p : ℕ) → p < partition_count ring →
      moved_at made p ≡ (if has_changed ring made p then Some hour else moved_at ring p)
  made_moved p lt =
      ap (λ (moved : List (Option ℕ)). get_or moved p None) is.moved
      ∙ get_or-map-range_with_len (λ partition. stamped hour
      (changed_in (row_at (rows_of ring) partition) (row_at rows partition))
      (slice_index_or ring.moved partition None)) 0 (length (rows_of ring)) p p None
      (omega (arith, lt, count_rows ring)) (omega arith)
      ∙ ap (λ (n : ℕ). if nat_lt 0 n then Some hour else moved_at ring p) (changed_row p lt)
      ∙ ap (λ b. if b then Some hour else moved_at ring p)
      (any_counted (λ r. differs (seat ring p r) (seat made p r))
      (range_with_len 0 ring.replicas))

  pub made_after : IsAfter ring hour made
  made_after = record {
    moved = made_moved;
    seat_count = length_seats;
    moved_count = ap length is.moved ∙ length-map-range_with_len (λ partition. stamped hour
        (changed_in (row_at (rows_of ring) partition) (row_at rows partition))
        (slice_index_or ring.moved partition None)) 0 (length (rows_of ring)) ∙ count_rows ring;
    devices = is.devices;
    version = is.version;
    rest = is.rest;
  }

  made_on : AreOnRemaining ring made
  made_on = record {
    there = λ p r s. let there = whole.taken p r s in (
      there.0,
      made_seat p r s there.0 there.1,
      there.2,
    );
    distinct = λ p one other id s also at bt.
        let lt = s.partition_there in
        let row = row_same p lt in
        let first = ap (λ r. slice_get r one) row ∙ range_get (λ r. seat made p r) made.replicas one
        (let below = s.replica_there in omega (arith, below, replicas_same)) ∙ ap Some at in
        let second = ap (λ r. slice_get r other) row ∙ range_get (λ r. seat made p r) made.replicas
        other (let below = also.replica_there in omega (arith, below, replicas_same)) ∙ ap Some
        bt in
        one_seat id (row_at rows p) one other (whole.distinct p id lt) first second;
  }

  pub made_valid : hour < long_count → IsValid made
  made_valid small = valid_after ring made hour valid made_on made_after small

pub is_made : (ring : RingRecord) (hour : ℕ) (old rows : List (List (Option ℕ)))
    (all devices : List Device) (seats : List ℕ) (moved : List (Option ℕ)) → old ≡ rows_of ring
    → all ≡ ring.devices → devices ≡ remaining all → seats ≡ flat_map devices_on rows
    → moved ≡ map (λ partition. stamped hour (changed_in (row_at old partition)
    (row_at rows partition)) (slice_index_or ring.moved partition None))
    (range_with_len 0 (length old))
    → IsMade ring hour rows (reseated ring devices seats moved)
is_made ring hour old rows all devices seats moved are listed left taken written = record {
  devices = left ∙ ap remaining listed;
  seats = taken;
  moved = written ∙ ap (λ (before : List (List (Option ℕ))). map (λ partition. stamped hour
      (changed_in (row_at before partition) (row_at rows partition)) (slice_index_or ring.moved
      partition None)) (range_with_len 0 (length before))) are;
  version = refl;
  rest = refl;
}

pub alike : (ring : RingRecord) (rows : List (List (Option ℕ))) → IsValid ring →
    AreWhole ring rows → AreAlike (rows_of ring) rows
alike ring rows valid whole = record {
  as_many = whole.as_many ∙ sym (count_rows ring);
  long = λ p lt. let below : p < partition_count ring = omega (arith, lt, count_rows ring) in
      whole.long p below ∙ sym (width p below);
  few = λ p lt. let below : p < partition_count ring = omega (arith, lt, count_rows ring) in
      let most = valid.replicas.1 in omega (arith, width p below, most);
}
  where
    width : (p : ℕ) → p < partition_count ring → length (row_at (rows_of ring) p) ≡ ring.replicas
    width p lt = ap length (get_or-map-range_with_len (λ q. row_of ring q) 0 (partition_count ring)
        p p [] lt (omega arith)) ∙ length-map-range_with_len (λ q. seat ring p q) 0 ring.replicas
