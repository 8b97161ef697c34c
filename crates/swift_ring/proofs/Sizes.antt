-- The JSON of a ring is shorter than 2 ^ 32 bytes.
use Rattle.std.proofs.Common.{◌≡◌, ℕ, zero, suc, ◌+◌, ◌-◌, ◌*◌, ◌/◌, ◌%◌, ◌^◌, ◌<◌, ◌≤◌, Bool, true, false}
use Rattle.ring_words.specs.Limits.{most_ids}
use Rattle.std.proofs.Common.{List, [], ◌∷◌, ◌++◌, length, map, arith, decimal, length-append}
use Rattle.std.specs.Prelude.{Option, Some, IsTrue, All, ◌==◌, codes, find, if◌then◌else◌}
use Rattle.std.specs.Prelude.{slice_get}
use Rattle.std.specs.List.{AllByRecursion, flat_map, range_with_len}
use Rattle.std.proofs.lemmas.Bool.{and_parts, leb-true}
use Rattle.std.proofs.lemmas.Fmt.{length-decimal-le}
use Rattle.std.proofs.lemmas.List.Elements.{recursion_from_All}
use Rattle.std.proofs.lemmas.List.FromFn.{length-map-range_with_len}
use Rattle.ring_words.specs.Rows.{IsProperRow}
use Rattle.ring_words.specs.Texts.{address_text, is_device_name, two_digits}
use Rattle.ring_words.specs.declared.device.Device.{Device}
use Rattle.ring_text.specs.Snapshot.{SnapshotRecord, IsValidSnapshot}
use Rattle.swift_ring.specs.Json.{array, hundredths, listed, member, object, quoted}
use Rattle.swift_ring.specs.SwiftFile.{after, device_members, entries, device_text, number_count}
use Rattle.swift_ring.specs.SwiftFile.{number_entry, ring_json}

-- ---- JSON

-- A text has at most so many bytes.
abbrev pub IsWithin : ℕ → List ℕ → Type 0
IsWithin most text = length text ≤ most

others_size : (most : ℕ) (parts : List (List ℕ)) → AllByRecursion (IsWithin most) parts →
    length (flat_map (λ other. codes ", " ++ other) parts) ≤ length parts * (most + 2)
others_size most [] all = omega arith
others_size most (part ∷ parts) all =
    let first : length part ≤ most = all.0 in
    let rest = others_size most parts all.1 in
    omega (arith, length-append (codes ", " ++ part) (flat_map (λ other. codes ", " ++ other) parts))

listed_size : (most : ℕ) (parts : List (List ℕ)) → AllByRecursion (IsWithin most) parts →
    length (listed parts) ≤ length parts * (most + 2)
listed_size most [] all = omega arith
listed_size most (part ∷ parts) all =
    let first : length part ≤ most = all.0 in
    let rest = others_size most parts all.1 in
    omega (arith, length-append part (flat_map (λ other. codes ", " ++ other) parts))

wrapped_size : (front text back : List ℕ) → length (front ++ text ++ back) ≡ length front +
    length text + length back
wrapped_size front text back = omega (
  arith,
  length-append (front ++ text) back,
  length-append front
      text,
)

member_size : (key value : List ℕ) (k v : ℕ) → length key ≤ k → length value ≤ v →
    length (member key value) ≤ k + v + 4
member_size key value k v h i = omega (
  arith,
  wrapped_size (quoted key) (codes ": ") value,
  wrapped_size (codes "\"") key (codes "\""),
)

quoted_size : (text : List ℕ) (most : ℕ) → length text ≤ most → length (quoted text) ≤ most + 2
quoted_size text most h = omega (arith, wrapped_size (codes "\"") text (codes "\""))

object_size : (members : List (List ℕ)) (most : ℕ) → length (listed members) ≤ most →
    length (object members) ≤ most + 2
object_size members most h = omega (arith, wrapped_size (codes "{") (listed members) (codes "}"))

array_size : (parts : List (List ℕ)) (most : ℕ) → length (listed parts) ≤ most →
    length (array parts) ≤ most + 2
array_size parts most h = omega (arith, wrapped_size (codes "[") (listed parts) (codes "]"))

-- ---- numbers and addresses

short_number : (n : ℕ) → n < 2 ^ 16 → length (decimal n) ≤ 5
short_number n small = length-decimal-le 5 n (omega arith) (omega arith) (omega arith)

octet_size : (n : ℕ) → n < 256 → length (decimal n) ≤ 3
octet_size n small = length-decimal-le 3 n (omega arith) (omega arith) (omega arith)

address_size : (a : ℕ) → a < 2 ^ 32 → length (address_text a) ≤ 15
address_size a small =
    let one = octet_size (a / 16777216) (omega arith) in
    let two = octet_size (a / 65536 % 256) (omega arith) in
    let three = octet_size (a / 256 % 256) (omega arith) in
    let four = octet_size (a % 256) (omega arith) in
    omega (arith, length-append {A = ℕ})

hundredths_size : (h : ℕ) → h ≤ 100000000 → length (hundredths h) ≤ 11
hundredths_size h small =
    let whole = length-decimal-le 8 (h / 100) (omega arith) (omega arith) (omega arith) in
    let tenth = length-decimal-le 1 (h / 10 % 10) (omega arith) (omega arith) (omega arith) in
    let part = either (h % 10 == 0) (decimal (h / 10 % 10)) (two_digits (h % 100)) 2 (omega arith)
    (omega arith) in
    omega (
      arith,
      wrapped_size (decimal (h / 100)) (codes ".") (if h % 10 == 0
          then decimal (h / 10 % 10) else two_digits (h % 100)),
    )
  where
    either : (b : Bool) (x y : List ℕ) (most : ℕ) → length x ≤ most → length y ≤ most →
        length (if b then x else y) ≤ most
    either true x y most h i = h
    either false x y most h i = i

-- ---- devices

-- The device has what a snapshot's devices have.
pub record IsSized (device : Device) : Type 0 where
  pub limits : IsProperRow device.row
  pub id : device.id < most_ids

name_size : (name : List ℕ) → IsTrue (is_device_name name) → length name ≤ 32
name_size name h = leb-true _ _ (and_parts _ _ (and_parts _ _ h).0).1

number_size : (key : List ℕ) (n : ℕ) → length key ≤ 16 → n < 2 ^ 16 → IsWithin 58
    (member key (decimal n))
number_size key n short small =
    omega (arith, member_size key (decimal n) 16 5 short (short_number n small))

text_size : (key text : List ℕ) → length key ≤ 16 → length text ≤ 32 → IsWithin 58
    (member key (quoted text))
text_size key text short small =
    omega (arith, member_size key (quoted text) 16 34 short (quoted_size text 32 small))

weight_size : (key : List ℕ) (weight : ℕ) → length key ≤ 16 → weight ≤ 100000000 → IsWithin 58
    (member key (hundredths weight))
weight_size key weight short small =
    omega (arith, member_size key (hundredths weight) 16 11 short (hundredths_size weight small))

device_size : (device : Device) → IsSized device → length (object (device_members device)) ≤ 602
device_size device h =
    let row = device.row in
    let address : length (address_text row.address) ≤ 32 =
    omega (arith, address_size row.address h.limits.address) in
    object_size (device_members device) 600 (listed_size 58 (device_members device) (
      text_size (codes "device") row.name (omega arith) (name_size row.name h.limits.name),
      (
        number_size (codes "id") device.id (omega arith) h.id,
        (
          text_size (codes "ip") (address_text row.address) (omega arith) address,
          (
            text_size (codes "meta") [] (omega arith) (omega arith),
            (
              number_size (codes "port") row.port (omega arith) h.limits.port.1,
              (
                number_size (codes "region") row.region (omega arith) h.limits.region,
                (
                  text_size (codes "replication_ip") (address_text row.address) (omega arith) address,
                  (
                    number_size (codes "replication_port") row.port (omega arith) h.limits.port.1,
                    (
                      weight_size (codes "weight") row.weight (omega arith) h.limits.weight,
                      (
                        number_size (codes "zone") row.zone (omega arith) h.limits.zone,
                        tt,
                      ),
                    ),
                  ),
                ),
              ),
            ),
          ),
        ),
      ),
    ))

-- ---- entries

picked_size : (here : Bool) (device : Device) (rest : Option Device) → length (device_text (Some
    device)) ≤ 602 → length (device_text rest) ≤ 602 → length (device_text (if here then Some device
    else rest)) ≤ 602
picked_size true device rest h i = h
picked_size false device rest h i = i

entry_size : (devices : List Device) (id : ℕ) → AllByRecursion IsSized devices →
    length (number_entry devices id) ≤ 602
entry_size [] id all = omega arith
entry_size (device ∷ devices) id all = picked_size (device.id == id) device
    (find (λ device. device.id == id) devices) (device_size device all.0) (entry_size devices id
    all.1)

each_size : (devices : List Device) (ids : List ℕ) → AllByRecursion IsSized devices →
    AllByRecursion (IsWithin 602) (map (number_entry devices) ids)
each_size devices [] all = tt
each_size devices (id ∷ ids) all = (entry_size devices id all, each_size devices ids all)

after_size : (devices : List Device) (place : ℕ) → AllByRecursion IsSized devices →
    after (slice_get devices place) ≤ most_ids
after_size [] place all = omega arith
after_size (device ∷ devices) zero all = let small = all.0.id in omega arith
after_size (device ∷ devices) (suc place) all = after_size devices place all.1

entries_size : (devices : List Device) → AllByRecursion IsSized devices → length (array (entries
    devices)) ≤ most_ids * 604 + 2
entries_size devices all =
    let count = after_size devices (length devices - 1) all in
    let each = listed_size 602 (entries devices) (each_size devices (range_with_len 0 (number_count
    devices)) all) in
    array_size (entries devices) (most_ids * 604) (omega (
      arith,
      length-map-range_with_len (number_entry
          devices) 0 (number_count devices),
    ))

sized_devices : (devices : List Device) → All (λ device. IsProperRow device.row) devices → All (λ device. device.id <
    most_ids) devices → All IsSized devices
sized_devices devices limits below = λ k d lt. record { limits = limits k d lt; id = below k d lt }

-- the length of the JSON fits the four bytes that tell it
pub json_size : (snapshot : SnapshotRecord) → IsValidSnapshot snapshot → length (ring_json snapshot)
    < 2 ^ 32
json_size snapshot valid =
    let all = recursion_from_All IsSized snapshot.devices (sized_devices snapshot.devices valid.devices.proper
    valid.devices.below) in
    let most : ℕ = most_ids * 604 + 100 in
    let order : length (member (codes "byteorder") (quoted (codes "little"))) ≤ most =
    omega arith in
    let devs : length (member (codes "devs") (array (entries snapshot.devices))) ≤ most =
    omega (
      arith,
      member_size (codes "devs") (array (entries snapshot.devices)) 4
          (most_ids * 604 + 2) (omega arith) (entries_size snapshot.devices all),
    ) in
    let shift : length (member (codes "part_shift") (decimal (32 - snapshot.power))) ≤ most =
    omega (
      arith,
      number_size (codes "part_shift") (32 - snapshot.power) (omega arith)
          (omega arith),
    ) in
    let replicas : length (member (codes "replica_count") (decimal snapshot.replicas)) ≤ most =
    omega (
      arith,
      number_size (codes "replica_count") snapshot.replicas (omega arith)
          (omega (arith, valid.replicas.1)),
    ) in
    let digits : length (decimal snapshot.version) ≤ 10 =
    length-decimal-le 10 snapshot.version (omega arith) (omega (arith, valid.version))
    (omega (arith, valid.version)) in
    let version : length (member (codes "version") (decimal snapshot.version)) ≤ most =
    omega (
      arith,
      member_size (codes "version") (decimal snapshot.version) 7 10 (omega arith)
          digits,
    ) in
    let members = member (codes "byteorder") (quoted (codes "little"))
    ∷ member (codes "devs") (array (entries snapshot.devices))
    ∷ member (codes "part_shift") (decimal (32 - snapshot.power))
    ∷ member (codes "replica_count") (decimal snapshot.replicas)
    ∷ member (codes "version") (decimal snapshot.version)
    ∷ [] in
    omega (
      arith,
      object_size members (5 * (most + 2)) (listed_size most members
          (order, (devs, (shift, (replicas, (version, tt)))))),
    )
