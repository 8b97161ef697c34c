-- Where texts stop being those of rings.
use Rattle.std.proofs.Common.{◌≡◌, ℕ, zero, suc, ◌+◌, ◌*◌, ◌-◌, ◌^◌, ◌<◌, ◌≤◌, true, false}
use Rattle.std.proofs.Common.{List, [], ◌∷◌, ◌++◌, length, get_or, take, drop, map, decimal, Option}
use Rattle.std.proofs.Common.{⊎_elim, Bor, ◌%◌, add-one, Some, Result, Ok, Err, refl, sym, ap}
use Rattle.std.proofs.Common.{subst, ◌∙◌, arith}
use Rattle.std.specs.declared.alloc.AllocError.{AllocError}
use Rattle.std.specs.Prelude.{IfOk, MatchOption, ◌==◌, codes, slice_get}
use Rattle.std.specs.List.{join_with_byte, list_any, range_with_len, slice_range}
use Rattle.std.proofs.lemmas.Bool.{cases_lt, false_from_ne_true}
use Rattle.std.proofs.lemmas.List.{get_or-append_right, get_or-drop, get_or-map, get_or-take}
use Rattle.std.proofs.lemmas.List.{get_or_append_left, drop-append-le, drop-take, drop_at}
use Rattle.std.proofs.lemmas.List.{length-append, length-drop, length-map, length-take-le}
use Rattle.std.proofs.lemmas.List.{length-take}
use Rattle.std.proofs.lemmas.List.{get_or_default, take-take, take_all, nil_from_length}
use Rattle.std.proofs.lemmas.List.{take-append-le, take-map, take_at}
use Rattle.std.proofs.lemmas.List.Elements.{All-drop, All-get_or, All-take}
use Rattle.std.proofs.lemmas.List.FromFn.{get_or-map-range_with_len, length-range_with_len}
use Rattle.std.proofs.lemmas.List.Kept.{AllPairs-from_increasing}
use Rattle.std.proofs.lemmas.Option.{get_or_from_slice_get, slice_get-get_or, slice_get_within}
use Rattle.std.proofs.Math.Nat.{mod-eq_of_lt, mul-le-mul_right}
use Rattle.ring_words.specs.Limits.{most_devices}
use Rattle.ring_words.specs.Rows.{IsProperRow}
use Rattle.ring_words.specs.Spelling.{Reads}
use Rattle.ring_words.specs.Inner.ReadsAs.{ReadsAs}
use Rattle.ring_words.specs.declared.device.Device.{Device}
use Rattle.ring_words.specs.declared.spelling.SpellingFault.{SpellingFault}
use Rattle.ring_words.specs.declared.spelling.SpellingFault.TheVariants.{Bad}
use Rattle.ring_model.specs.Ring.{has_device}
use Rattle.ring_model.specs.Valid.{AreDevices, AreDistinct, AreSeats}
use Rattle.ring_model.proofs.Validity.{apart_fails, distinct_fails}
use Rattle.ring_text.specs.Snapshot.{SnapshotRecord, IsValidSnapshot}
use Rattle.ring_text.specs.Spelling.{device_line, partition_line}
use Rattle.ring_text.specs.Inner.Reading.{AreDeviceLines, IsDeviceLine, IsHead}
use Rattle.ring_text.specs.Inner.Reading.{IsPartitionLine, text_at}
use Rattle.ring_text.specs.Inner.Stopping.{CanFollow, CannotBegin, CannotEnd, CannotFollow}
use Rattle.ring_text.specs.Inner.Stopping.{IsHeadLine, IsNoNext, IsNoPartition, texts_of_devices}
use Rattle.ring_text.specs.Inner.Stopping.{head_of}
use Rattle.ring_text.specs.Inner.Stopping.{last_texts, texts_of_partitions, seat_texts}
use Rattle.ring_text.specs.declared.head.Head.{Head}
use Rattle.ring_text.proofs.Cutting.{Lent, seen, seen-drop, seen-take}
use Rattle.ring_text.proofs.Devices.{one_device, same_devices}
use Rattle.ring_text.proofs.Partitions.{one_partition}
use Rattle.ring_text.proofs.Text.{seats_below}
use Rattle.ring_text.proofs.Whole.{first_texts, head_within, length-first_texts, one_head}
use Rattle.ring_text.proofs.Whole.{whole_text}

abbrev Texts : Type 0
Texts = List (List ℕ)

abbrev joined : Texts → List ℕ
joined words = join_with_byte 32 words

-- ---- what was read, and what wasn't

pub found_reads : {X : Type 0} (P : X → Type 0) (r : Result X SpellingFault) (o : Option X) (x : X)
    → Reads P r → MatchOption o (r ≡ Err Bad) (λ v. r ≡ Ok v) → o ≡ Some x → P x
found_reads P r o x reads found is =
    let same : r ≡ Ok x = subst (λ (p : Option _). MatchOption p (r ≡ Err Bad) (λ v. r ≡ Ok v)) is
    found in
    subst (Reads P) same reads

pub none_reads : {X : Type 0} (P : X → Type 0) (r : Result X SpellingFault) → Reads P r →
    r ≡ Err Bad → (x : X) → P x → ⊥
none_reads P r reads same = subst (Reads P) same reads

pub none_reads_as : {X Y : Type 0} (f : X → Y) (P : Y → Type 0) (r : Result X SpellingFault) →
    ReadsAs f P r → r ≡ Err Bad → (y : Y) → P y → ⊥
none_reads_as f P r reads same = subst (ReadsAs f P) same reads

pub found_reads_as : {X Y : Type 0} (f : X → Y) (P : Y → Type 0) (r : Result X SpellingFault)
    (o : Option X) (x : X) → ReadsAs f P r → MatchOption o (r ≡ Err Bad) (λ v. r ≡ Ok v) →
    o ≡ Some x → P (f x)
found_reads_as f P r o x reads found is =
    let same : r ≡ Ok x = subst (λ (p : Option _). MatchOption p (r ≡ Err Bad) (λ v. r ≡ Ok v)) is
    found in
    subst (ReadsAs f P) same reads

-- ---- lines at a front

at_front : (lines more : Texts) (place n : ℕ) → place < n → n ≤ length lines →
    text_at (take n lines ++ more) place ≡ text_at lines place
at_front lines more place n lt le =
    let long : place < length (take n lines) = omega (arith, length-take-le n lines le) in
    get_or_append_left (take n lines) more [] place long ∙ get_or-take n lines place [] lt

-- ---- the first lines

pub stopped_at_head : (lines : Texts) (place : ℕ) → place < 5 → place < length lines →
    (IsHeadLine place (text_at lines place) → ⊥) → CannotBegin (take (place + 1) lines)
stopped_at_head lines place lt within cannot = λ s next more are.
    let ts : Texts = take (place + 1) lines ++ next ∷ more in
    cannot (record {
      texts = take 6 ts;
      head = head_of s;
      are = head_within ts s are;
      here = get_or-take 6 ts place [] (omega arith) ∙ at_front lines (next ∷ more) place
          (place + 1) (omega arith) (omega arith);
    })

front_six : (lines : Texts) (next : List ℕ) (more : Texts) → 6 ≤ length lines →
    take 6 (take 6 lines ++ next ∷ more) ≡ take 6 lines
front_six lines next more le = take_at (take 6 lines) (next ∷ more) 6 (length-take-le 6 lines le)

pub stopped_in_head : (lines : Texts) → 6 ≤ length lines → ((head : Head) →
    IsHead (take 6 lines) head → ⊥) → CannotBegin (take 6 lines)
stopped_in_head lines le cannot = λ s next more are.
    cannot (head_of s) (subst (λ (t : Texts). IsHead t (head_of s)) (front_six lines next more le)
    (head_within (take 6 lines ++ next ∷ more) s are))

pub too_many_devices : (lines : Texts) (head : Head) → 6 ≤ length lines →
    IsHead (take 6 lines) head → most_devices < head.devices → CannotBegin (take 6 lines)
too_many_devices lines head le tells many = λ s next more are.
    let same : head ≡ head_of s = one_head (take 6 lines) head (head_of s) tells
    (subst (λ (t : Texts). IsHead t (head_of s)) (front_six lines next more le)
    (head_within (take 6 lines ++ next ∷ more) s are)) in
    omega (arith, many, ap (λ (h : Head). h.devices) same, are.valid.devices.count)

pub follow_begins : (lines : Texts) (head : Head) (n : ℕ) → 6 ≤ length lines →
    IsHead (take 6 lines) head → CannotFollow head (take n (drop 6 lines)) →
    CannotBegin (take (6 + n) lines)
follow_begins lines head n le tells cannot = λ s next more are.
    let front : Texts = take (6 + n) lines in
    let ts : Texts = front ++ next ∷ more in
    let long : 6 ≤ length front = front_long in
    let six : take 6 ts ≡ take 6 lines = take-append-le 6 front (next ∷ more) long ∙ six_of in
    let same : head ≡ head_of s = one_head (take 6 lines) head (head_of s) tells
    (subst (λ (t : Texts). IsHead t (head_of s)) six (head_within ts s are)) in
    let back : drop 6 ts ≡ take n (drop 6 lines) ++ next ∷ more =
    drop-append-le 6 front (next ∷ more) long ∙ ap (λ (t : Texts). t ++ next ∷ more)
    (drop-take 6 n lines) in
    let rest : drop 6 ts ≡ last_texts s = ap (drop 6) (whole_text ts s are) ∙ drop_at
    (first_texts s) (last_texts s) 6 (length-first_texts s) in
    cannot s next more are.valid same (sym rest ∙ back)
  where
    front_long : 6 ≤ length (take (6 + n) lines)
    front_long = simp length-take (omega arith)

    six_of : take 6 (take (6 + n) lines) ≡ take 6 lines
    six_of = take-take 6 (6 + n) lines (omega arith)

-- ---- the lines of devices

abbrev HasShortId : Device → Type 0
HasShortId device = device.id < 2 ^ 16

abbrev IsProperDevice : Device → Type 0
IsProperDevice device = IsProperRow device.row

-- the lines of the first devices
first_devices : (s : SnapshotRecord) (n : ℕ) → IsValidSnapshot s →
    AreDeviceLines (take n (texts_of_devices s)) (take n s.devices)
first_devices s n valid = record {
  are = take-map joined n (map device_line s.devices) ∙ ap (map joined) (take-map device_line n
      s.devices);
  ids = All-take HasShortId n s.devices valid.devices.below;
  limits = All-take IsProperDevice n s.devices valid.devices.proper;
}

-- the line of a device
device_line_at : (s : SnapshotRecord) (i : ℕ) (d : Device) → IsValidSnapshot s →
    i < length s.devices → d ≡ get_or s.devices i d →
    IsDeviceLine (text_at (texts_of_devices s) i) d
device_line_at s i d valid lt is =
    let under : i < length (map device_line s.devices) = rw length-map lt in
    record {
      is = get_or-map joined (map device_line s.devices) i (device_line d) [] under ∙ ap joined
          (get_or-map device_line s.devices i d (device_line d) lt) ∙ ap
          (λ (e : Device). joined (device_line e)) (sym is);
      id = subst HasShortId (sym is) (All-get_or HasShortId s.devices i d lt valid.devices.below);
      limits = subst IsProperDevice (sym is) (All-get_or IsProperDevice s.devices i d lt
          valid.devices.proper);
    }

-- a device can stand behind those before it
device_follows : (n i : ℕ) (devices : List Device) (d : Device) → AreDevices n devices →
    i < length devices → d ≡ get_or devices i d → CanFollow (take i devices) d
device_follows n i devices d are lt is = record {
  numbers = λ k e below. numbers k e (omega (arith, below, length-take-le i devices (omega arith)));
  place = false_from_ne_true _ (λ found. apart_fails devices i d lt is found are.apart);
}
  where
    number : Device → ℕ
    number device = device.id

    numbers : (k : ℕ) (e : Device) → k < i → (get_or (take i devices) k e).id < d.id
    numbers k e below =
        let risen = AllPairs-from_increasing (map (λ device. device.id) devices) are.rise k i 0
        below (rw length-map lt) in
        let first : get_or (map (λ device. device.id) devices) k 0 ≡ (get_or devices k e).id =
        get_or-map (λ (x : Device). x.id) devices k e 0 (omega arith) in
        let second : get_or (map (λ device. device.id) devices) i 0 ≡ (get_or devices i d).id =
        get_or-map (λ (x : Device). x.id) devices i d 0 lt in
        let here : (get_or devices i d).id ≡ d.id = ap (λ (x : Device). x.id) (sym is) in
        let there : (get_or (take i devices) k e).id ≡ (get_or devices k e).id =
        ap (λ (x : Device). x.id) (get_or-take i devices k e below) in
        omega (arith, risen, first, second, here, there)

pub stopped_at_device : (head : Head) (lines : Texts) (devices : List Device) (good : ℕ) →
    good < head.devices → good < length lines → AreDeviceLines (take good lines) devices →
    IsNoNext devices (text_at lines good) → CannotFollow head (take (good + 1) lines)
stopped_at_device head lines devices good few within are cannot = λ s next more valid same is.
    let count : head.devices ≡ length s.devices = ap (λ (h : Head). h.devices) same in
    let lt : good < length s.devices = omega arith in
    let texts : length (texts_of_devices s) ≡ length s.devices = simp length-map in
    let d : Device = get_or s.devices good (none_of s) in
    let mine : d ≡ get_or s.devices good d = get_or_default s.devices good (none_of s) d lt in
    let front : take good lines ≡ take good (texts_of_devices s) =
    sym (take-take good (good + 1) lines (omega arith))
    ∙ sym (take-append-le good (take (good + 1) lines) (next ∷ more) (omega (
      arith,
      length-take-le
          (good + 1) lines (omega arith),
    )))
    ∙ ap (take good) (sym is) ∙ take-append-le good (texts_of_devices s) (seat_texts s)
    (omega arith) in
    let here : text_at lines good ≡ text_at (texts_of_devices s) good =
    sym (at_front lines (next ∷ more) good (good + 1) (omega arith) (omega arith))
    ∙ ap (λ (t : Texts). text_at t good) (sym is)
    ∙ get_or_append_left (texts_of_devices s) (seat_texts s) [] good (omega arith) in
    let earlier : devices ≡ take good s.devices = same_devices (take good lines) devices
    (take good s.devices) are (subst (λ (t : Texts). AreDeviceLines t (take good s.devices))
    (sym front) (first_devices s good valid)) in
    cannot d (subst (λ (t : List ℕ). IsDeviceLine t d) (sym here) (device_line_at s good d valid lt
    mine))
    (subst (λ (ds : List Device). CanFollow ds d) (sym earlier) (device_follows _ good s.devices d
    valid.devices lt mine))
  where
    none_of : SnapshotRecord → Device
    none_of s = record {
      id = 0;
      row = record { region = 0; zone = 0; address = 0; port = 0; name = []; weight = 0 };
      removed = false;
    }

pub end_follows : (head : Head) (lines : Texts) (devices : List Device) (n : ℕ) →
    head.devices ≤ length lines → AreDeviceLines (take head.devices lines) devices →
    CannotEnd head devices (take n (drop head.devices lines)) →
    CannotFollow head (take (head.devices + n) lines)
end_follows head lines devices n le are cannot = λ s next more valid same is.
    let count : head.devices ≡ length s.devices = ap (λ (h : Head). h.devices) same in
    let texts : length (texts_of_devices s) ≡ head.devices = simp length-map (sym count) in
    let front : Texts = take (head.devices + n) lines in
    let long : head.devices ≤ length front = front_long in
    let whole : take head.devices s.devices ≡ s.devices = take_all head.devices s.devices
    (omega arith) in
    let first : take head.devices lines ≡ take head.devices (texts_of_devices s) =
    sym (take-take head.devices (head.devices + n) lines (omega arith))
    ∙ sym (take-append-le head.devices front (next ∷ more) long)
    ∙ ap (take head.devices) (sym is) ∙ take-append-le head.devices (texts_of_devices s)
    (seat_texts s) (omega arith) in
    let all : devices ≡ s.devices = same_devices (take head.devices lines) devices s.devices are
    (subst (λ (t : Texts). AreDeviceLines t s.devices) (sym first) (subst (λ (ds : List Device).
    AreDeviceLines (take head.devices (texts_of_devices s)) ds) whole (first_devices s head.devices
    valid))) in
    let rest : seat_texts s ≡ take n (drop head.devices lines) ++ next ∷ more =
    sym (drop_at (texts_of_devices s) (seat_texts s) head.devices texts) ∙ ap (drop head.devices) is
    ∙ drop-append-le head.devices front (next ∷ more) long
    ∙ ap (λ (t : Texts). t ++ next ∷ more) (drop-take head.devices n lines) in
    cannot s next more valid same all rest
  where
    front_long : head.devices ≤ length (take (head.devices + n) lines)
    front_long = simp length-take (omega arith)

-- ---- the lines of partitions

-- what stands in a range of seats
in_range : (xs : List ℕ) (first width k : ℕ) → k < width →
    get_or (take width (drop first xs)) k 0 ≡ get_or xs (first + k) 0
in_range xs first width k lt = get_or-take width (drop first xs) k 0 lt ∙ get_or-drop first xs k 0

-- the seats of a partition
abbrev seats_at : SnapshotRecord → ℕ → List ℕ
seats_at s k = take s.replicas (drop (k * s.replicas) s.seats)

length-seats_at : (s : SnapshotRecord) (k : ℕ) → IsValidSnapshot s → k < 2 ^ s.power →
    length (seats_at s k) ≡ s.replicas
length-seats_at s k valid lt =
    let room : (k + 1) * s.replicas ≤ 2 ^ s.power * s.replicas = mul-le-mul_right s.replicas
    (omega arith) in
    length-take-le s.replicas (drop (k * s.replicas) s.seats) (rw length-drop (omega (
      arith,
      room,
      valid.taken,
    )))

partition_at : (s : SnapshotRecord) (k : ℕ) → IsValidSnapshot s → k < 2 ^ s.power →
    IsPartitionLine s.replicas (text_at (texts_of_partitions s) k) (seats_at s k)
partition_at s k valid lt =
    let n : ℕ = 2 ^ s.power in
    let line : ℕ → List (List ℕ) = partition_line s.replicas s.seats in
    let long : k < length (map line (range_with_len 0 n)) = simp (length-map, length-range_with_len)
    lt in
    let width : k * s.replicas + s.replicas - k * s.replicas ≡ s.replicas = omega arith in
    record {
      is = get_or-map joined (map line (range_with_len 0 n)) k (line k) [] long ∙ ap joined
          (get_or-map-range_with_len line 0 n k k (line k) lt (omega arith)) ∙ ap
          (λ (w : ℕ). joined (map decimal (take w (drop (k * s.replicas) s.seats)))) width;
      count = length-seats_at s k valid lt;
      limits = All-take (λ (x : ℕ). x < 2 ^ 16) s.replicas (drop (k * s.replicas) s.seats)
          (All-drop (λ (x : ℕ). x < 2 ^ 16) (k * s.replicas) s.seats (seats_below s valid));
    }

first_of : (partition replicas place : ℕ) → partition * replicas + place < replicas →
    partition * replicas ≡ 0
first_of zero replicas place h = omega arith
first_of (suc n) replicas place h = absurd (omega arith)

-- the seats of a partition are on different devices of the ring
seats_are : (s : SnapshotRecord) (k : ℕ) → IsValidSnapshot s → k < 2 ^ s.power →
    AreSeats 1 s.replicas s.devices (seats_at s k)
seats_are s k valid lt = record {
  whole = λ _. omega (arith, length-seats_at s k valid lt);
  known = All-take (λ id. has_device id s.devices ≡ true) s.replicas (drop (k * s.replicas) s.seats)
      (All-drop (λ id. has_device id s.devices ≡ true) (k * s.replicas) s.seats valid.seats.known);
  distinct = distinct;
}
  where
    here : (partition place id : ℕ) → slice_get (seats_at s k) (partition * s.replicas + place) ≡
        Some id → place < s.replicas → slice_get s.seats (k * s.replicas + place) ≡ Some id
    here partition place id got below =
        let within : partition * s.replicas + place < s.replicas = omega (
          arith,
          slice_get_within (seats_at s k) (partition * s.replicas + place) id got,
          length-seats_at s k valid lt,
        ) in
        let first : partition * s.replicas ≡ 0 = first_of partition s.replicas place within in
        let value : get_or s.seats (k * s.replicas + place) 0 ≡ id =
        sym (in_range s.seats (k * s.replicas) s.replicas place below)
        ∙ ap (λ (i : ℕ). get_or (seats_at s k) i 0) (omega (arith, first))
        ∙ get_or_from_slice_get (seats_at s k) (partition * s.replicas + place) id 0 got in
        let room : (k + 1) * s.replicas ≤ 2 ^ s.power * s.replicas = mul-le-mul_right s.replicas
        (omega arith) in
        slice_get-get_or s.seats (k * s.replicas + place) 0 (omega (arith, room, valid.taken))
        ∙ ap Some value

    distinct : AreDistinct s.replicas (seats_at s k)
    distinct partition one other id lo lt first second = valid.seats.distinct k one other id lo lt
        (here partition one id first lo) (here partition other id second lt)

-- ---- the lines behind those of the devices

length-seat_texts : (s : SnapshotRecord) → length (seat_texts s) ≡ 2 ^ s.power + 3
length-seat_texts s = simp (length-append, length-map, length-range_with_len) (omega arith)

length-texts_of_partitions : (s : SnapshotRecord) → length (texts_of_partitions s) ≡ 2 ^ s.power
length-texts_of_partitions s = simp (length-map, length-range_with_len)

-- a line that is told stands there in the text of a ring
told_line : (s : SnapshotRecord) (lines : Texts) (next : List ℕ) (more : Texts) (place : ℕ) →
    place < length lines → seat_texts s ≡ take (place + 1) lines ++ next ∷ more →
    text_at lines place ≡ text_at (seat_texts s) place
told_line s lines next more place within is =
    sym (at_front lines (next ∷ more) place (place + 1) (omega arith) (omega arith))
    ∙ ap (λ (t : Texts). text_at t place) (sym is)

pub no_seats : (head : Head) (devices : List Device) (lines : Texts) → 0 < length lines →
    (text_at lines 0 ≡ codes "seats" → ⊥) → CannotEnd head devices (take 1 lines)
no_seats head devices lines some cannot = λ s next more valid same all is.
    cannot (told_line s lines next more 0 some is)

-- the line of a partition, among those behind the line before them
seat_line : (s : SnapshotRecord) (k : ℕ) → k < 2 ^ s.power →
    text_at (seat_texts s) (k + 1) ≡ text_at (texts_of_partitions s) k
seat_line s k lt =
    rw add-one (get_or_append_left (texts_of_partitions s) (codes "end" ∷ [] ∷ []) [] k (omega (
      arith,
      length-texts_of_partitions s,
    )))

pub no_partition : (head : Head) (devices : List Device) (lines : Texts) (k : ℕ) →
    k < 2 ^ head.power → k + 1 < length lines →
    IsNoPartition head.replicas devices (text_at lines (k + 1)) →
    CannotEnd head devices (take (k + 2) lines)
no_partition head devices lines k lt within cannot = λ s next more valid same all is.
    let power : 2 ^ head.power ≡ 2 ^ s.power = ap (λ (h : Head). 2 ^ h.power) same in
    let replicas : head.replicas ≡ s.replicas = ap (λ (h : Head). h.replicas) same in
    let there : k < 2 ^ s.power = omega arith in
    let two : k + 2 ≡ k + 1 + 1 = omega arith in
    let here : text_at lines (k + 1) ≡ text_at (texts_of_partitions s) k =
    told_line s lines next more (k + 1) within (is ∙ ap (λ (n : ℕ). take n lines ++ next ∷ more)
    two) ∙ seat_line s k there in
    cannot (seats_at s k) (rw (here, replicas) (partition_at s k valid there))
    (rw (replicas, all) (seats_are s k valid there))

pub no_end : (head : Head) (devices : List Device) (lines : Texts) (k : ℕ) → k ≡ 2 ^ head.power →
    k + 1 < length lines → (text_at lines (k + 1) ≡ codes "end" → ⊥) →
    CannotEnd head devices (take (k + 2) lines)
no_end head devices lines k count within cannot = λ s next more valid same all is.
    let power : 2 ^ head.power ≡ 2 ^ s.power = ap (λ (h : Head). 2 ^ h.power) same in
    let two : k + 2 ≡ k + 1 + 1 = omega arith in
    let first : k - k ≡ 0 = omega arith in
    let last : text_at (seat_texts s) (k + 1) ≡ codes "end" =
    rw add-one (get_or-append_right (texts_of_partitions s) (codes "end" ∷ [] ∷ []) k k [] (omega (
      arith,
      length-texts_of_partitions s,
    )) (omega arith) ∙ ap (λ (n : ℕ). get_or (codes "end" ∷ [] ∷ []) n [])
    first) in
    cannot (told_line s lines next more (k + 1) within (is ∙ ap (λ (n : ℕ). take n lines ++ next ∷
    more) two) ∙ last)

pub behind_end : (head : Head) (devices : List Device) (lines : Texts) (k : ℕ) →
    k ≡ 2 ^ head.power → k + 2 < length lines → CannotEnd head devices (take (k + 3) lines)
behind_end head devices lines k count within = λ s next more valid same all is.
    let power : 2 ^ head.power ≡ 2 ^ s.power = ap (λ (h : Head). 2 ^ h.power) same in
    omega (
      arith,
      length-seat_texts s,
      ap (λ (t : Texts). length t) is,
      length-append
          (take (k + 3) lines) (next ∷ more),
      length-take-le (k + 3) lines (omega arith),
    )

-- ---- the same of lines that are borrowed

lent_text : (lines : Lent) (i : ℕ) (line : Bor (List ℕ)) → i < length lines →
    text_at (seen lines) i ≡ (get_or lines i line).now
lent_text lines i line lt = get_or-map (λ (l : Bor (List ℕ)). l.now) lines i line [] lt

pub lent_devices : (lines : Lent) (devices : List Device) (i k : ℕ) → k ≡ i →
    AreDeviceLines (seen (take i lines)) devices → AreDeviceLines (take k (seen lines)) devices
lent_devices lines devices i k e are = rw e (subst (λ (t : Texts). AreDeviceLines t devices)
    (seen-take i lines) are)

pub no_device_there : (lines : Lent) (i k : ℕ) (line : Bor (List ℕ)) (devices : List Device)
    (r : Result Device SpellingFault) → k ≡ i → i < length lines →
    Reads (IsDeviceLine (get_or lines i line).now) r → r ≡ Err Bad →
    IsNoNext devices (text_at (seen lines) k)
no_device_there lines i k line devices r e lt reads bad = λ device is can.
    none_reads (IsDeviceLine (get_or lines i line).now) r reads bad device
    (subst (λ (t : List ℕ). IsDeviceLine t device) (ap (text_at (seen lines)) e ∙ lent_text lines i
    line lt) is)

pub no_follower_there : (lines : Lent) (i k : ℕ) (line : Bor (List ℕ)) (devices : List Device)
    (device : Device) → k ≡ i → i < length lines → IsDeviceLine (get_or lines i line).now device →
    (CanFollow devices device → ⊥) → IsNoNext devices (text_at (seen lines) k)
no_follower_there lines i k line devices device e lt here cannot = λ d is can.
    cannot (subst (CanFollow devices) (one_device (get_or lines i line).now d device
    (subst (λ (t : List ℕ). IsDeviceLine t d) (ap (text_at (seen lines)) e ∙ lent_text lines i line
    lt) is) here) can)

same_partition : (replicas : ℕ) (line ns ms : List ℕ) → IsPartitionLine replicas line ns →
    IsPartitionLine replicas line ms → ns ≡ ms
same_partition zero line ns ms h i = nil_from_length ns h.count ∙ sym (nil_from_length ms i.count)
same_partition (suc n) line ns ms h i = one_partition (suc n) line ns ms (omega arith) h i

pub no_partition_there : (lines : Lent) (i : ℕ) (line : Bor (List ℕ)) (replicas : ℕ)
    (devices : List Device) (found : List ℕ) → i < length lines →
    IsPartitionLine replicas (get_or lines i line).now found →
    (AreSeats 1 (length found) devices found → ⊥) →
    IsNoPartition replicas devices (text_at (seen lines) i)
no_partition_there lines i line replicas devices found lt here cannot = λ ns is seats.
    let mine : IsPartitionLine replicas (get_or lines i line).now ns =
    subst (λ (t : List ℕ). IsPartitionLine replicas t ns) (lent_text lines i line lt) is in
    let same : ns ≡ found = same_partition replicas (get_or lines i line).now ns found mine here in
    cannot (rw here.count (subst (AreSeats 1 replicas devices) same seats))

-- ---- numbers of devices that stand twice

front_range : (xs : List ℕ) (n : ℕ) → slice_range xs (n - n) n ≡ take n xs
front_range xs n =
    let none : n - n ≡ 0 = omega arith in
    let all : n - 0 ≡ n = omega arith in
    rw none (ap (λ (w : ℕ). take w xs) all)

pub stands_twice : (devices : List Device) (numbers : List ℕ) (place : ℕ) →
    place < length numbers →
    list_any (λ y. y == get_or numbers place 0) (take place numbers) ≡ true →
    AreSeats 1 (length numbers) devices numbers → ⊥
stands_twice devices numbers place lt found seats =
    let rest : place ≡ place % length numbers = sym (mod-eq_of_lt lt) in
    distinct_fails numbers (length numbers) place place (get_or numbers place 0) rest (omega arith)
    lt refl (ap (list_any (λ y. y == get_or numbers place 0)) (front_range numbers place) ∙ found)
    seats.distinct

-- ---- stops among lines that are borrowed

-- a line of a part of the lines
part_text : (lines : Lent) (m w i : ℕ) → i < m → i < w →
    text_at (seen (take m (take w (drop 1 lines)))) i ≡ text_at (seen lines) (i + 1)
part_text lines m w i first second =
    ap (λ (t : Texts). text_at t i) (seen-take m (take w (drop 1 lines)))
    ∙ get_or-take m (seen (take w (drop 1 lines))) i [] first
    ∙ ap (λ (t : Texts). text_at t i) (seen-take w (drop 1 lines))
    ∙ get_or-take w (seen (drop 1 lines)) i [] second
    ∙ ap (λ (t : Texts). text_at t i) (seen-drop 1 lines) ∙ get_or-drop 1 (seen lines) i []
    ∙ ap (λ (n : ℕ). text_at (seen lines) n) (later i)
  where
    later : (n : ℕ) → 1 + n ≡ n + 1
    later n = omega arith

rest_text : (lines : Lent) (w i : ℕ) → i < w →
    text_at (seen (take w (drop 1 lines))) i ≡ text_at (seen lines) (i + 1)
rest_text lines w i lt =
    ap (λ (t : Texts). text_at t i) (seen-take w (drop 1 lines))
    ∙ get_or-take w (seen (drop 1 lines)) i [] lt
    ∙ ap (λ (t : Texts). text_at t i) (seen-drop 1 lines) ∙ get_or-drop 1 (seen lines) i []
    ∙ ap (λ (n : ℕ). text_at (seen lines) n) (later i)
  where
    later : (n : ℕ) → 1 + n ≡ n + 1
    later n = omega arith

pub partitions_stop : (head : Head) (devices : List Device) (lines : Lent) (m w good : ℕ) →
    good < m → good < w → good < 2 ^ head.power → 1 + good < length lines →
    IsNoPartition head.replicas devices (text_at (seen (take m (take w (drop 1 lines)))) good) →
    CannotEnd head devices (take (1 + good + 1) (seen lines))
partitions_stop head devices lines m w good first second few within cannot =
    let two : good + 2 ≡ 1 + good + 1 = omega arith in
    let long : good + 1 < length (seen lines) = rw length-map (omega arith) in
    subst (λ (n : ℕ). CannotEnd head devices (take n (seen lines))) two
    (no_partition head devices (seen lines) good few long (subst (λ (t : List ℕ).
    IsNoPartition head.replicas devices t) (part_text lines m w good first second) cannot))

pub end_stops : (head : Head) (devices : List Device) (lines : Lent) (w good : ℕ) → good < w →
    good ≡ 2 ^ head.power → 1 + good < length lines →
    (text_at (seen (take w (drop 1 lines))) good ≡ codes "end" → ⊥) →
    CannotEnd head devices (take (1 + good + 1) (seen lines))
end_stops head devices lines w good lt count within cannot =
    let two : good + 2 ≡ 1 + good + 1 = omega arith in
    let long : good + 1 < length (seen lines) = rw length-map (omega arith) in
    subst (λ (n : ℕ). CannotEnd head devices (take n (seen lines))) two
    (no_end head devices (seen lines) good count long (λ e. cannot (rest_text lines w good lt ∙ e)))

pub more_stops : (head : Head) (devices : List Device) (lines : Lent) (good : ℕ) →
    good ≡ 2 ^ head.power → 2 + good < length lines →
    CannotEnd head devices (take (2 + good + 1) (seen lines))
more_stops head devices lines good count within =
    let three : good + 3 ≡ 2 + good + 1 = omega arith in
    let long : good + 2 < length (seen lines) = rw length-map (omega arith) in
    subst (λ (n : ℕ). CannotEnd head devices (take n (seen lines))) three
    (behind_end head devices (seen lines) good count long)

-- devices of the lines at the front
devices_at : (lines : Lent) (devices : List Device) (m good : ℕ) → good ≡ length devices →
    good ≤ m → AreDeviceLines (take (length devices) (seen (take m lines))) devices →
    AreDeviceLines (take good (seen lines)) devices
devices_at lines devices m good e le are =
    subst (λ (t : Texts). AreDeviceLines t devices) (ap (λ (n : ℕ). take n (seen (take m lines)))
    (sym e) ∙ ap (take good) (seen-take m lines) ∙ take-take good m (seen lines) le) are

pub devices_stop : (head : Head) (lines : Lent) (devices : List Device) (m good : ℕ) →
    good ≡ length devices → good < m → good < length lines → good < head.devices →
    AreDeviceLines (take (length devices) (seen (take m lines))) devices →
    IsNoNext devices (text_at (seen (take m lines)) (length devices)) →
    CannotFollow head (take (good + 1) (seen lines))
devices_stop head lines devices m good e lt within few are cannot =
    let long : good < length (seen lines) = rw length-map within in
    let here : text_at (seen (take m lines)) (length devices) ≡ text_at (seen lines) good =
    ap (text_at (seen (take m lines))) (sym e) ∙ ap (λ (t : Texts). text_at t good)
    (seen-take m lines) ∙ get_or-take m (seen lines) good [] lt in
    stopped_at_device head (seen lines) devices good few long
    (devices_at lines devices m good e (omega arith) are)
    (subst (IsNoNext devices) here cannot)

pub seats_stop : (head : Head) (lines : Lent) (devices : List Device) (m w good k : ℕ) →
    good ≡ length devices → good ≡ head.devices → good ≤ m → good + k < length lines →
    length lines - good ≤ w → AreDeviceLines (take (length devices) (seen (take m lines))) devices →
    CannotEnd head devices (take (k + 1) (seen (take w (drop good lines)))) →
    CannotFollow head (take (good + k + 1) (seen lines))
seats_stop head lines devices m w good k e count le within all are cannot =
    let long : head.devices ≤ length (seen lines) = rw length-map (omega arith) in
    let tail : length (drop good lines) ≤ w = omega (arith, length-drop good lines) in
    let same : seen (take w (drop good lines)) ≡ drop good (seen lines) =
    ap seen (take_all w (drop good lines) tail) ∙ seen-drop good lines in
    let first : AreDeviceLines (take head.devices (seen lines)) devices =
    subst (λ (n : ℕ). AreDeviceLines (take n (seen lines)) devices) count
    (devices_at lines devices m good e le are) in
    let last : CannotEnd head devices (take (k + 1) (drop head.devices (seen lines))) =
    subst (λ (n : ℕ). CannotEnd head devices (take (k + 1) (drop n (seen lines)))) count
    (subst (λ (t : Texts). CannotEnd head devices (take (k + 1) t)) same cannot) in
    let sum : head.devices + (k + 1) ≡ good + k + 1 = omega arith in
    subst (λ (n : ℕ). CannotFollow head (take n (seen lines))) sum
    (end_follows head (seen lines) devices (k + 1) long first last)

-- one of the first lines
pub short_stops : (lines : Lent) (r : Result ℕ AllocError) → length lines < 6 →
    IfOk r (λ good. good < length lines → IsHeadLine good (text_at (seen lines) good) → ⊥) →
    IfOk r (λ good. good < length lines → CannotBegin (take (good + 1) (seen lines)))
short_stops lines (Ok good) short stop = λ within. stopped_at_head (seen lines) good (omega arith)
    (rw length-map within) (stop within)
short_stops lines (Err e) short stop = tt

pub head_stops : (lines first : Lent) (r : Result ℕ AllocError) → 6 ≤ length lines →
    first ≡ take 6 lines → ((head : Head) → IsHead (seen first) head → ⊥) →
    IfOk r (λ good. good ≤ length (take 5 first)) →
    IfOk r (λ good. good < length (take 5 first) → IsHeadLine good (text_at (seen (take 5 first))
    good) → ⊥) → IfOk r (λ good. good < length lines → CannotBegin (take (good + 1) (seen lines)))
head_stops lines first (Err e) le is none few stop = tt
head_stops lines first (Ok good) le is none few stop = λ within. ⊎_elim
    (λ lt. stopped_at_head (seen lines) good lt (rw length-map within) (λ h. stop
    (omega (arith, lt, five)) (subst (IsHeadLine good) (sym (here lt)) h)))
    (λ last. let sixth : 5 ≡ good = omega (arith, last, few, five) in
    subst (λ (n : ℕ). CannotBegin (take (n + 1) (seen lines))) sixth
    (stopped_in_head (seen lines) (rw length-map le) (λ head tells. none head
    (subst (λ (t : Texts). IsHead t head) (sym six) tells))))
    (cases_lt good 5)
  where
    six : seen first ≡ take 6 (seen lines)
    six = ap seen is ∙ seen-take 6 lines

    long : length first ≡ 6
    long = ap (λ (l : Lent). length l) is ∙ length-take-le 6 lines le

    five : length (take 5 first) ≡ 5
    five = length-take-le 5 first (omega (arith, long))

    here : good < 5 → text_at (seen (take 5 first)) good ≡ text_at (seen lines) good
    here lt = ap (λ (t : Texts). text_at t good) (seen-take 5 first) ∙ get_or-take 5 (seen first)
        good [] lt ∙ ap (λ (t : Texts). text_at t good) six ∙ get_or-take 6 (seen lines) good []
        (omega arith)

pub first_tell : (lines first : Lent) (head : Head) → first ≡ take 6 lines →
    IsHead (seen first) head → IsHead (take 6 (seen lines)) head
first_tell lines first head is tells = subst (λ (t : Texts). IsHead t head)
    (ap seen is ∙ seen-take 6 lines) tells

pub many_stop : (lines first : Lent) (head : Head) → 6 ≤ length lines → first ≡ take 6 lines →
    IsHead (seen first) head → most_devices < head.devices → CannotBegin (take 6 (seen lines))
many_stop lines first head le is tells many = too_many_devices (seen lines) head
    (rw length-map le) (first_tell lines first head is tells) many

pub rest_stops : (lines first rest : Lent) (head : Head) (k : ℕ) → 6 ≤ length lines →
    first ≡ take 6 lines → rest ≡ drop 6 lines → IsHead (seen first) head →
    CannotFollow head (take (k + 1) (seen rest)) → CannotBegin (take (6 + k + 1) (seen lines))
rest_stops lines first rest head k le is back tells cannot =
    let same : seen rest ≡ drop 6 (seen lines) = ap seen back ∙ seen-drop 6 lines in
    let sum : 6 + (k + 1) ≡ 6 + k + 1 = omega arith in
    subst (λ (n : ℕ). CannotBegin (take n (seen lines))) sum
    (follow_begins (seen lines) head (k + 1) (rw length-map le) (first_tell lines first head is
    tells) (subst (λ (t : Texts). CannotFollow head (take (k + 1) t)) same cannot))
