-- Where the seats stand in a file.
use Rattle.std.proofs.Common.{◌≡◌, ◌∙◌, ℕ, zero, suc, ◌+◌, ◌-◌, ◌*◌, ◌^◌, ◌<◌, ◌≤◌, true}
use Rattle.ring_words.specs.Limits.{most_ids}
use Rattle.std.proofs.Common.{List, [], ◌∷◌, ◌++◌, length, take, drop, arith, ap, refl, subst, sym}
use Rattle.std.proofs.Common.{⊎_elim, append_assoc, length-append}
use Rattle.std.proofs.Math.Seq.{drop-append-add, take-append_seam}
use Rattle.std.proofs.lemmas.Bool.{eqb-true, false≢true, or_cases}
use Rattle.std.proofs.lemmas.List.{drop-append-le, drop-drop}
use Rattle.std.proofs.lemmas.List.Elements.{recursion_from_All}
use Rattle.std.proofs.lemmas.Nat.{from_be_bytes-to_be_bytes_4, from_le_bytes-to_le_bytes_2}
use Rattle.std.specs.Int.{w16, w32, from_be_bytes, from_le_bytes, to_be_bytes, to_le_bytes}
use Rattle.std.specs.List.{AllByRecursion, flat_map, range_with_len, slice_range}
use Rattle.std.specs.Prelude.{codes, slice_index, ◌==◌}
use Rattle.ring_words.specs.declared.device.Device.{Device}
use Rattle.ring_model.specs.Ring.{has_device}
use Rattle.ring_text.specs.Snapshot.{SnapshotRecord, IsValidSnapshot}
use Rattle.swift_ring.specs.SwiftFile.{replica_bytes, ring_json, seat_bytes, seat_in, seats_bytes}
use Rattle.swift_ring.specs.SwiftFile.{swift_file}
use Rattle.swift_ring.proofs.Sizes.{json_size}

-- What stands at a place.
pub record StandsAt (bytes : List ℕ) (place : ℕ) (piece : List ℕ) : Type 0 where
  pub rest : List ℕ
  pub is : drop place bytes ≡ piece ++ rest

-- the same place, reckoned in another way
at_same_place : (bytes piece : List ℕ) (place other : ℕ) → place ≡ other → StandsAt bytes place
    piece → StandsAt bytes other piece
at_same_place bytes piece place other e h = subst (λ p. StandsAt bytes p piece) e h

-- what stands in what stands somewhere
within_piece : (bytes piece part : List ℕ) (place inner : ℕ) → inner ≤ length piece →
    StandsAt bytes place piece → StandsAt piece inner part → StandsAt bytes (place + inner) part
within_piece bytes piece part place inner fits h i = record {
  rest = i.rest ++ h.rest;
  is = sym (drop-drop inner place bytes)
      ∙ ap (drop inner) h.is
      ∙ drop-append-le inner piece h.rest fits
      ∙ ap (λ (x : List ℕ). x ++ h.rest) i.is
      ∙ append_assoc part i.rest h.rest;
}

-- what stands behind a front
behind : (front bytes piece : List ℕ) (place : ℕ) → StandsAt bytes place piece →
    StandsAt (front ++ bytes) (length front + place) piece
behind front bytes piece place h = record {
  rest = h.rest;
  is = drop-append-add front bytes place ∙ h.is;
}

-- the bytes at a place
slice_at : (bytes piece : List ℕ) (place size : ℕ) → length piece ≡ size → StandsAt bytes place
    piece → slice_range bytes place (place + size) ≡ piece
slice_at bytes piece place size count h =
    ap (λ n. take n (drop place bytes)) (the_size place size (length piece) count)
    ∙ ap (take (length piece)) h.is
    ∙ take-append_seam piece h.rest
  where
    the_size : (place size count : ℕ) → count ≡ size → place + size - place ≡ count
    the_size place size count e = omega arith

-- ---- pieces of one length

-- how long so many pieces are
pieces_length : (f : ℕ → List ℕ) (size : ℕ) → ((x : ℕ) → length (f x) ≡ size) → (a n : ℕ) →
    length (flat_map f (range_with_len a n)) ≡ n * size
pieces_length f size each a zero = omega arith
pieces_length f size each a (suc n) =
    let rest = pieces_length f size each (a + 1) n in
    let first = each a in
    omega (arith, length-append (f a) (flat_map f (range_with_len (a + 1) n)))

-- where each piece stands
piece_stands : (f : ℕ → List ℕ) (size : ℕ) → ((x : ℕ) → length (f x) ≡ size) → (a n i k : ℕ) →
    i < n → k ≡ a + i → StandsAt (flat_map f (range_with_len a n)) (i * size) (f k)
piece_stands f size each a zero i k lt is = absurd (omega arith)
piece_stands f size each a (suc n) zero k lt is =
    let rest = flat_map f (range_with_len (a + 1) n) in
    let here : StandsAt (f a ++ rest) 0 (f a) = record { rest = rest; is = refl } in
    subst (λ x. StandsAt (f a ++ rest) (zero * size) (f x)) (omega arith) (at_same_place
    (f a ++ rest) (f a) 0 (zero * size) (omega arith) here)
piece_stands f size each a (suc n) (suc i) k lt is =
    let rest = flat_map f (range_with_len (a + 1) n) in
    let later = piece_stands f size each (a + 1) n i k (omega arith) (omega arith) in
    let first = each a in
    at_same_place (f a ++ rest) (f k) (length (f a) + i * size) (suc i * size) (omega arith)
    (behind (f a) rest (f k) (i * size) later)

-- ---- seats

replica_length : (partitions replicas : ℕ) (seats : List ℕ) (replica : ℕ) →
    length (replica_bytes partitions replicas seats replica) ≡ partitions * 2
replica_length partitions replicas seats replica =
    pieces_length (seat_bytes replicas seats replica) 2 (λ x. refl) 0 partitions

seat_stands : (partitions replicas : ℕ) (seats : List ℕ) (replica partition : ℕ) →
    replica < replicas → partition < partitions → StandsAt (seats_bytes partitions replicas seats)
    (2 * (replica * partitions + partition)) (seat_bytes replicas seats replica partition)
seat_stands partitions replicas seats replica partition r p =
    let row = replica_bytes partitions replicas seats in
    let outer = piece_stands row (partitions * 2) (replica_length partitions replicas seats) 0
    replicas replica replica r (omega arith) in
    let inner = piece_stands (seat_bytes replicas seats replica) 2 (λ x. refl) 0 partitions partition
    partition p (omega arith) in
    let whole = replica_length partitions replicas seats replica in
    at_same_place (seats_bytes partitions replicas seats) (seat_bytes replicas seats replica
    partition) (replica * (partitions * 2) + partition * 2) (2 * (replica * partitions +
    partition)) (omega arith)
    (within_piece (seats_bytes partitions replicas seats) (row replica) (seat_bytes replicas seats
    replica partition) (replica * (partitions * 2)) (partition * 2) (omega arith) outer inner)

-- the number of a device of the ring fits two bytes
small_id : (devices : List Device) (id : ℕ) → AllByRecursion (λ device. device.id < most_ids)
    devices →
    has_device id devices ≡ true → id < most_ids
small_id [] id all h = absurd (false≢true h)
small_id (device ∷ devices) id all h =
    let here : (device.id == id) ≡ true → id < most_ids = λ (e : (device.id == id) ≡ true).
    subst (λ n. n < most_ids) (eqb-true device.id id e) all.0 in
    ⊎_elim here (λ rest. small_id devices id all.1 rest) (or_cases _ _ h)

small_of : (devices : List Device) (seats : List ℕ) (place : ℕ) → AllByRecursion (λ device.
    device.id < most_ids) devices → AllByRecursion (λ id. has_device id devices ≡ true) seats →
    slice_index seats place < most_ids
small_of devices [] place small known = omega arith
small_of devices (id ∷ seats) zero small known = small_id devices id small known.0
small_of devices (id ∷ seats) (suc place) small known = small_of devices seats place small known.1

small_seat : (snapshot : SnapshotRecord) (place : ℕ) → IsValidSnapshot snapshot →
    slice_index snapshot.seats place < 2 ^ 16
small_seat snapshot place valid = small_of snapshot.devices snapshot.seats place
    (recursion_from_All (λ device. device.id < most_ids) snapshot.devices valid.devices.below)
    (recursion_from_All (λ id. has_device id snapshot.devices ≡ true) snapshot.seats
    valid.seats.known)

-- ---- the file

-- a reader finds the seat that stands at its place
found : (file : List ℕ) (partitions replica partition json seat : ℕ) →
    from_be_bytes w32 (slice_range file 6 10) ≡ json → seat < 2 ^ 16 → StandsAt file (10 + json +
    2 * (replica * partitions + partition)) (to_le_bytes w16 seat) →
    seat_in file partitions replica partition ≡ seat
found file partitions replica partition json seat read small h =
    ap (λ n. from_le_bytes w16 (slice_range file (10 + n + 2 * (replica * partitions + partition))
    (10 + n + 2 * (replica * partitions + partition) + 2))) read
    ∙ ap (from_le_bytes w16) (slice_at file (to_le_bytes w16 seat) (10 + json + 2 * (replica *
    partitions + partition)) 2 refl h)
    ∙ from_le_bytes-to_le_bytes_2 seat small

pub seat_found : (snapshot : SnapshotRecord) (replica partition : ℕ) → IsValidSnapshot snapshot →
    replica < snapshot.replicas → partition < 2 ^ snapshot.power →
    seat_in (swift_file snapshot) (2 ^ snapshot.power) replica partition
    ≡ slice_index snapshot.seats (partition * snapshot.replicas + replica)
seat_found snapshot replica partition valid r p =
    let partitions = 2 ^ snapshot.power in
    let json = ring_json snapshot in
    let front : List ℕ = codes "R1NG" ++ to_be_bytes w16 1 ++ to_be_bytes w32 (length json) ++ json
    in
    let seats = seats_bytes partitions snapshot.replicas snapshot.seats in
    let place = 2 * (replica * partitions + partition) in
    let count : length front ≡ 10 + length json = omega arith in
    found (front ++ seats) partitions replica partition (length json) (slice_index snapshot.seats
    (partition * snapshot.replicas + replica)) (from_be_bytes-to_be_bytes_4 (length json)
    (json_size snapshot valid)) (small_seat snapshot (partition * snapshot.replicas + replica)
    valid) (at_same_place (front ++ seats) _ (length front + place) (10 + length json + place)
    (omega arith) (behind front seats _ place (seat_stands partitions snapshot.replicas
    snapshot.seats replica partition r p)))
