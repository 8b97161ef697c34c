-- Rows stand for one list of rings at most.
use Rattle.std.proofs.Common.{◌≡◌, ℕ, zero, suc, ◌+◌, ◌*◌, ◌<◌, ◌≤◌, ◌/◌, ◌%◌, ◌^◌, pos, negsuc}
use Rattle.std.proofs.Common.{Bool, true, false, List, [], ◌∷◌, ◌++◌, map, length, take, drop}
use Rattle.std.proofs.Common.{Option, Some, None, Less, Equal, refl, sym, ap, subst, ◌∙◌, arith}
use Rattle.std.specs.List.{AllByRecursion, flat_map, enumerate_from}
use Rattle.std.proofs.lemmas.Cmp.{tied_itself}
use Rattle.std.proofs.Math.Nat.{suc-mul}
use Rattle.std.proofs.lemmas.List.{length-drop, take-append-drop, drop-drop}
use Rattle.std.proofs.lemmas.List.Elements.{recursion_from_All}
use Rattle.ring_words.specs.declared.device.Device.{Device}
use Rattle.ring_words.proofs.Spelled.{one_address}
use Rattle.ring_words.specs.Rows.{IsProperRow}
use Rattle.ring_model.specs.Ring.{RingRecord}
use Rattle.store_model.specs.Entries as rows
use Rattle.store_model.specs.Entries.{name_cmp, NameNumber}
use Rattle.store_model.proofs.Keys.{name_total}
use Rattle.store_rows.specs.RingRows.{NamedRings, ring_entry, ring_entries, device_entry}
use Rattle.store_rows.specs.RingRows.{device_entries, published_entry, published_entries}
use Rattle.store_rows.specs.RingRows.{part_entry, part_entries_of, part_entries, two_bytes}
use Rattle.store_rows.specs.RingRows.{hour_number, mark_number}
use Rattle.store_rows.specs.Stands.{IsNamedRing}
use Rattle.store_rows.proofs.Ordered.{NamedAs, NamedLater, Rising, later, devices_named}
use Rattle.store_rows.proofs.Ordered.{texts_named, parts_named}

pub no_less : (name other : List ℕ) → other ≡ name → name_cmp name other ≡ Less → ⊥
no_less name other same less = let e : Equal ≡ Less = sym (tied_itself name_total name) ∙ ap
    (name_cmp name) (sym same) ∙ less in cc

-- rows of one name and rows of later names part in one way
pub parted_by : {K V : Type 0} (of : K → List ℕ) (name : List ℕ) (es fs gs hs : List (K × V))
    → AllByRecursion (λ (e : K × V). of e.0 ≡ name) es
    → AllByRecursion (λ (e : K × V). name_cmp name (of e.0) ≡ Less) fs
    → AllByRecursion (λ (e : K × V). of e.0 ≡ name) gs
    → AllByRecursion (λ (e : K × V). name_cmp name (of e.0) ≡ Less) hs
    → es ++ fs ≡ gs ++ hs → (es ≡ gs) × (fs ≡ hs)
parted_by of name [] fs [] hs a b c d e = (refl, e)
parted_by of name [] [] (y ∷ gs) hs a b c d e = cc
parted_by of name [] (x ∷ fs) (y ∷ gs) hs a b c d e = let same : x ≡ y = cc in
    absurd (no_less name (of x.0) (ap (λ (z : _ × _). of z.0) same ∙ c.0) b.0)
parted_by of name (x ∷ es) fs [] [] a b c d e = cc
parted_by of name (x ∷ es) fs [] (y ∷ hs) a b c d e = let same : x ≡ y = cc in
    absurd (no_less name (of y.0) (ap (λ (z : _ × _). of z.0) (sym same) ∙ a.0) d.0)
parted_by of name (x ∷ es) fs (y ∷ gs) hs a b c d e =
    let same : x ≡ y = cc in
    let behind : es ++ fs ≡ gs ++ hs = cc in
    let rest = parted_by of name es fs gs hs a.1 b c.1 d behind in
    (λ i. same i ∷ rest.0 i, rest.1)

pub parted : {V : Type 0} (name : List ℕ) (es fs gs hs : List (NameNumber × V)) → NamedAs name es →
    NamedLater name fs → NamedAs name gs → NamedLater name hs
    → es ++ fs ≡ gs ++ hs → (es ≡ gs) × (fs ≡ hs)
parted = parted_by (λ (k : NameNumber). k.0)

-- a function that tells elements apart tells lists of them apart
pub one_list : {X Y : Type 0} (P : X → Type 0) (f : X → Y) → ((x y : X) → P x → P y → f x ≡ f y →
    x ≡ y) → (xs ys : List X) → AllByRecursion P xs → AllByRecursion P ys → map f xs ≡ map f ys →
    xs ≡ ys
one_list P f one [] [] a b e = refl
one_list P f one [] (y ∷ ys) a b e = cc
one_list P f one (x ∷ xs) [] a b e = cc
one_list P f one (x ∷ xs) (y ∷ ys) a b e =
    let head : f x ≡ f y = cc in
    let tail : map f xs ≡ map f ys = cc in
    let first = one x y a.0 b.0 head in
    let rest = one_list P f one xs ys a.1 b.1 tail in
    λ i. first i ∷ rest i

-- ---- devices

pub one_mark : (a b : Bool) → mark_number a ≡ mark_number b → a ≡ b
one_mark true true e = refl
one_mark false false e = refl
one_mark true false e = let h : pos 1 ≡ pos 0 = e in cc
one_mark false true e = let h : pos 0 ≡ pos 1 = e in cc

pub one_device : (name other : List ℕ) (x y : Device) → IsProperRow x.row → IsProperRow y.row →
    device_entry name x ≡ device_entry other y → x ≡ y
one_device name other x y p q e =
    let value = ap (λ (d : NameNumber × rows.Device). d.1) e in
    let number = ap (λ (d : NameNumber × rows.Device). d.0.1) e in
    let id : x.id ≡ y.id = (let h : pos x.id ≡ pos y.id = number in cc) in
    let region : x.row.region ≡ y.row.region = (let h : pos x.row.region ≡ pos y.row.region =
    ap (λ (d : rows.Device). d.region) value in cc) in
    let zone : x.row.zone ≡ y.row.zone = (let h : pos x.row.zone ≡ pos y.row.zone =
    ap (λ (d : rows.Device). d.zone) value in cc) in
    let port : x.row.port ≡ y.row.port = (let h : pos x.row.port ≡ pos y.row.port =
    ap (λ (d : rows.Device). d.port) value in cc) in
    let weight : x.row.weight ≡ y.row.weight = (let h : pos x.row.weight ≡ pos y.row.weight =
    ap (λ (d : rows.Device). d.weight) value in cc) in
    let address = one_address x.row.address y.row.address p.address q.address
    (ap (λ (d : rows.Device). d.address) value) in
    let called = ap (λ (d : rows.Device). d.name) value in
    let removed = one_mark x.removed y.removed (ap (λ (d : rows.Device). d.removed) value) in
    λ i. record {
      id = id i;
      row = record {
        region = region i;
        zone = zone i;
        address = address i;
        port = port i;
        name =
            called i;
        weight = weight i;
      };
      removed = removed i;
    }

one_text : (name other : List ℕ) (x y : ℕ × List ℕ) → published_entry name x ≡ published_entry other
    y → x ≡ y
one_text name other x y e =
    let number : pos x.0 ≡ pos y.0 = ap (λ (d : NameNumber × List ℕ). d.0.1) e in
    let version : x.0 ≡ y.0 = cc in
    let text = ap (λ (d : NameNumber × List ℕ). d.1) e in
    λ i. (version i, text i)

-- ---- partitions

pub one_hour : (a b : Option ℕ) → hour_number a ≡ hour_number b → a ≡ b
one_hour None None e = refl
one_hour None (Some h) e = let n : negsuc 0 ≡ pos h = e in cc
one_hour (Some h) None e = let n : pos h ≡ negsuc 0 = e in cc
one_hour (Some h) (Some k) e = let n : pos h ≡ pos k = e in let same : h ≡ k = cc in ap Some same

pub one_seating : (xs ys : List ℕ) → flat_map two_bytes xs ≡ flat_map two_bytes ys → xs ≡ ys
one_seating [] [] e = refl
one_seating [] (y ∷ ys) e = cc
one_seating (x ∷ xs) [] e = cc
one_seating (x ∷ xs) (y ∷ ys) e =
    let all : x / 256 ∷ x % 256 ∷ flat_map two_bytes xs ≡ y / 256 ∷ y % 256 ∷
    flat_map two_bytes ys = e in
    let greater : x / 256 ≡ y / 256 = cc in
    let less : x % 256 ≡ y % 256 = cc in
    let tail : flat_map two_bytes xs ≡ flat_map two_bytes ys = cc in
    let same : x ≡ y = omega arith in
    let rest = one_seating xs ys tail in
    λ i. same i ∷ rest i

-- moves and, partition by partition, seats
one_parts : (name : List ℕ) (replicas : ℕ) (s t : List ℕ) (n : ℕ) (a b : List (Option ℕ))
    → map (part_entry name replicas s) (enumerate_from n a) ≡ map (part_entry name replicas t)
    (enumerate_from n b)
    → (a ≡ b) × ((k : ℕ) → k < length a → take replicas (drop ((n + k) * replicas) s) ≡ take
    replicas (drop ((n + k) * replicas) t))
one_parts name replicas s t n [] [] e = (refl, λ k lt. absurd (omega arith))
one_parts name replicas s t n [] (y ∷ b) e = cc
one_parts name replicas s t n (x ∷ a) [] e = cc
one_parts name replicas s t n (x ∷ a) (y ∷ b) e =
    let head : part_entry name replicas s (n, x) ≡ part_entry name replicas t (n, y) = cc in
    let tail : map (part_entry name replicas s) (enumerate_from (n + 1) a) ≡ map
    (part_entry name replicas t) (enumerate_from (n + 1) b) = cc in
    let rest = one_parts name replicas s t (n + 1) a b tail in
    let hour = one_hour x y (ap (λ (p : NameNumber × rows.Part). p.1.hour) head) in
    let here = one_seating _ _ (ap (λ (p : NameNumber × rows.Part). p.1.devices) head) in
    (λ i. hour i ∷ rest.0 i, at here rest.1)
  where
    at : take replicas (drop (n * replicas) s) ≡ take replicas (drop (n * replicas) t)
        → ((k : ℕ) → k < length a → take replicas (drop (((n + 1) + k) * replicas) s) ≡ take
        replicas (drop (((n + 1) + k) * replicas) t))
        → (k : ℕ) → k < suc (length a) → take replicas (drop ((n + k) * replicas) s) ≡ take replicas
        (drop ((n + k) * replicas) t)
    at here more zero lt = let same : n + 0 ≡ n = omega arith in
        subst (λ m. take replicas (drop (m * replicas) s) ≡ take replicas (drop (m * replicas) t))
        (sym same) here
    at here more (suc k) lt = let same : (n + 1) + k ≡ n + suc k = omega arith in
        subst (λ m. take replicas (drop (m * replicas) s) ≡ take replicas (drop (m * replicas) t))
        same (more k (omega arith))

-- seats that are the same in each partition are the same
one_seats : (replicas n : ℕ) (s t : List ℕ) → length s ≤ n * replicas → length t ≤ n * replicas
    → ((k : ℕ) → k < n → take replicas (drop (k * replicas) s) ≡ take replicas
    (drop (k * replicas) t)) → s ≡ t
one_seats replicas zero [] [] ls lt same = refl
one_seats replicas zero (x ∷ s) t ls lt same = absurd (omega arith)
one_seats replicas zero [] (y ∷ t) ls lt same = absurd (omega arith)
one_seats replicas (suc n) s t ls lt same =
    let none : 0 * replicas ≡ 0 = omega arith in
    let first : take replicas s ≡ take replicas t =
    subst (λ m. take replicas (drop m s) ≡ take replicas (drop m t)) none (same 0 (omega arith))
    in
    let more : suc n * replicas ≡ n * replicas + replicas = suc-mul n replicas in
    let short_s : length (drop replicas s) ≤ n * replicas = omega (arith, length-drop replicas s) in
    let short_t : length (drop replicas t) ≤ n * replicas = omega (arith, length-drop replicas t) in
    let rest = one_seats replicas n (drop replicas s) (drop replicas t) short_s short_t (λ k h.
    let next : replicas + k * replicas ≡ suc k * replicas = omega (arith, suc-mul k replicas) in
    ap (take replicas) (drop-drop (k * replicas) replicas s ∙ ap (λ m. drop m s) next) ∙ same
    (suc k) (omega arith) ∙ sym (ap (take replicas) (drop-drop (k * replicas) replicas t ∙ ap
    (λ m. drop m t) next))) in
    sym (take-append-drop replicas s) ∙ ap (λ xs. xs ++ drop replicas s) first ∙ ap
    (λ xs. take replicas t ++ xs) rest ∙ take-append-drop replicas t

-- ---- rings

short_seats : (n replicas len : ℕ) → (0 < len → len ≡ n * replicas) → len ≤ n * replicas
short_seats n replicas zero whole = omega arith
short_seats n replicas (suc len) whole = let h = whole (omega arith) in omega arith

one_ring : (x y : List ℕ × RingRecord) → IsNamedRing x → IsNamedRing y → ring_entry x ≡ ring_entry y
    → map (device_entry x.0) x.1.devices ≡ map (device_entry y.0) y.1.devices
    → map (published_entry x.0) x.1.published ≡ map (published_entry y.0) y.1.published
    → part_entries_of x ≡ part_entries_of y → x ≡ y
one_ring x y p q row devices texts parts =
    let name = ap (λ (r : List ℕ × rows.Ring). r.0) row in
    let value = ap (λ (r : List ℕ × rows.Ring). r.1) row in
    let power : x.1.power ≡ y.1.power = (let h : pos x.1.power ≡ pos y.1.power =
    ap (λ (r : rows.Ring). r.power) value in cc) in
    let replicas : x.1.replicas ≡ y.1.replicas = (let h : pos x.1.replicas ≡ pos y.1.replicas =
    ap (λ (r : rows.Ring). r.replicas) value in cc) in
    let min_hours : x.1.min_hours ≡ y.1.min_hours = (let h : pos x.1.min_hours ≡ pos y.1.min_hours =
    ap (λ (r : rows.Ring). r.min_hours) value in cc) in
    let next_id : x.1.next_id ≡ y.1.next_id = (let h : pos x.1.next_id ≡ pos y.1.next_id =
    ap (λ (r : rows.Ring). r.next_id) value in cc) in
    let version : x.1.version ≡ y.1.version = (let h : pos x.1.version ≡ pos y.1.version =
    ap (λ (r : rows.Ring). r.version) value in cc) in
    let same_devices = one_list (λ (d : Device). IsProperRow d.row) (device_entry x.0)
    (λ a b. one_device x.0 x.0 a b) x.1.devices y.1.devices
    (recursion_from_All _ x.1.devices p.valid.devices.proper)
    (recursion_from_All _ y.1.devices q.valid.devices.proper)
    (devices ∙ ap (λ n. map (device_entry n) y.1.devices) (sym name)) in
    let same_texts = one_list (λ (t : ℕ × List ℕ). Unit {0}) (published_entry x.0)
    (λ a b _ _. one_text x.0 x.0 a b) x.1.published y.1.published (nothing x.1.published)
    (nothing y.1.published)
    (texts ∙ ap (λ n. map (published_entry n) y.1.published) (sym name)) in
    let all = one_parts x.0 x.1.replicas x.1.seats y.1.seats 0 x.1.moved y.1.moved
    (parts ∙ ap (λ n. map (part_entry n y.1.replicas y.1.seats) (enumerate_from 0 y.1.moved))
    (sym name) ∙ ap (λ r. map (part_entry x.0 r y.1.seats) (enumerate_from 0 y.1.moved))
    (sym replicas)) in
    let count : length x.1.moved ≡ length y.1.moved = ap length all.0 in
    let seats = one_seats x.1.replicas (length x.1.moved) x.1.seats y.1.seats
    (subst (λ n. length x.1.seats ≤ n * x.1.replicas) (sym p.valid.moved)
    (short_seats _ _ _ p.valid.seats.whole))
    (subst (λ n. length y.1.seats ≤ n * x.1.replicas) (sym (count ∙ q.valid.moved))
    (subst (λ r. length y.1.seats ≤ 2 ^ y.1.power * r) (sym replicas)
    (short_seats _ _ _ q.valid.seats.whole)))
    (λ k lt. subst (λ (m : ℕ). take x.1.replicas (drop (m * x.1.replicas) x.1.seats) ≡ take
    x.1.replicas (drop (m * x.1.replicas) y.1.seats)) (let h : 0 + k ≡ k = omega arith in
    h) (all.1 k lt)) in
    λ i. (
      name i,
      record {
        power = power i;
        replicas = replicas i;
        min_hours = min_hours i;
        next_id = next_id i;
        version = version i;
        devices = same_devices i;
        seats = seats i;
        moved = all.0 i;
        published = same_texts i;
      },
    )
  where
    nothing : {X : Type 0} (xs : List X) → AllByRecursion (λ (x : X). Unit {0}) xs
    nothing [] = tt
    nothing (x ∷ xs) = (tt, nothing xs)

pub one_rings : (xs ys : NamedRings) → AllByRecursion IsNamedRing xs →
    AllByRecursion IsNamedRing ys → Rising xs → Rising ys
    → ring_entries xs ≡ ring_entries ys → device_entries xs ≡ device_entries ys →
    published_entries xs ≡ published_entries ys → part_entries xs ≡ part_entries ys → xs ≡ ys
one_rings [] [] p q up vp rings devices texts parts = refl
one_rings [] (y ∷ ys) p q up vp rings devices texts parts = cc
one_rings (x ∷ xs) [] p q up vp rings devices texts parts = cc
one_rings (x ∷ xs) (y ∷ ys) p q up vp rings devices texts parts =
    let row : ring_entry x ≡ ring_entry y = cc in
    let rows_behind : ring_entries xs ≡ ring_entries ys = cc in
    let name : y.0 ≡ x.0 = sym (ap (λ (r : List ℕ × rows.Ring). r.0) row) in
    let d = parted x.0 (map (device_entry x.0) x.1.devices) (device_entries xs)
    (map (device_entry y.0) y.1.devices) (device_entries ys)
    (devices_named x) (later _ devices_named x.0 xs up.0)
    (subst (λ n. NamedAs n (map (device_entry y.0) y.1.devices)) name (devices_named y))
    (subst (λ n. NamedLater n (device_entries ys)) name (later _ devices_named y.0 ys vp.0))
    devices in
    let t = parted x.0 (map (published_entry x.0) x.1.published) (published_entries xs)
    (map (published_entry y.0) y.1.published) (published_entries ys)
    (texts_named x) (later _ texts_named x.0 xs up.0)
    (subst (λ n. NamedAs n (map (published_entry y.0) y.1.published)) name (texts_named y))
    (subst (λ n. NamedLater n (published_entries ys)) name (later _ texts_named y.0 ys vp.0))
    texts in
    let r = parted x.0 (part_entries_of x) (part_entries xs) (part_entries_of y) (part_entries ys)
    (parts_named x) (later _ parts_named x.0 xs up.0) (subst (λ n. NamedAs n (part_entries_of y))
    name (parts_named y)) (subst (λ n. NamedLater n (part_entries ys)) name
    (later _ parts_named y.0 ys vp.0)) parts in
    let first = one_ring x y p.0 q.0 row d.0 t.0 r.0 in
    let rest = one_rings xs ys p.1 q.1 up.1 vp.1 rows_behind d.1 t.1 r.1 in
    λ i. first i ∷ rest i
