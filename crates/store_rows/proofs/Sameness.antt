-- When two rows say the same.
use Rattle.std.proofs.Common.{◌≡◌, ℕ, ◌+◌, ◌*◌, ◌<◌, ◌≤◌, ◌==◌, ◌&&◌, suc, pos, Bool, true, false}
use Rattle.std.proofs.Common.{cond, List, [], ◌∷◌, map, length, take, drop, Option, Some, None}
use Rattle.std.proofs.Common.{IfSome, refl, sym, ap, subst, ◌∙◌, arith, nat_eq, slice_get}
use Rattle.std.proofs.Common.{slice_index_or}
use Rattle.std.proofs.Common as std
use Rattle.std.specs.Bool.{Decides}
use Rattle.std.specs.List.{flat_map}
use Rattle.std.specs.Option.{option_map}
use Rattle.std.specs.Ordering.{int_eq}
use Rattle.std.specs.Cmp.Lexicographic.{pointwise}
use Rattle.std.proofs.Math.Nat.{suc-mul, mul-le-mul_right}
use Rattle.std.proofs.lemmas.Bool.{and_from, and_parts}
use Rattle.std.proofs.lemmas.Bool.Decides.{same_from_decides, Decides-int_eq}
use Rattle.std.proofs.lemmas.Slice.Eq.{bytes_eq-Decides}
use Rattle.ring_words.specs.Texts.{address_limit}
use Rattle.ring_words.specs.declared.device.Device.{Device}
use Rattle.ring_words.proofs.Spelled.{one_address}
use Rattle.store_model.specs.Entries as rows
use Rattle.store_rows.specs.RingRows.{two_bytes, hour_number}
use Rattle.store_rows.specs.Differences.{is_same_device, is_same_part, has_same}
use Rattle.store_rows.specs.Inner.Lacking.{device_value, part_value}
use Rattle.ring_model.specs.Ring.{RingRecord}
use Rattle.std.proofs.lemmas.Option.{slice_get-get_or, slice_get_past}
use Rattle.store_rows.proofs.OneRings.{one_mark, one_hour, one_seating}

pub same_int : (a : std.ℤ) → int_eq a a ≡ true
same_int a = (Decides-int_eq a a).1 refl

pub same_bytes : (a : List ℕ) → pointwise nat_eq a a ≡ true
same_bytes a = (bytes_eq-Decides a a).1 refl

one_int : (a b : ℕ) → int_eq (pos a) (pos b) ≡ true → a ≡ b
one_int a b t = let e : pos a ≡ pos b = (Decides-int_eq (pos a) (pos b)).0 t in cc

pub device_itself : (v : rows.Device) → is_same_device v v ≡ true
device_itself v =
    and_from _ _ (same_int v.region) (and_from _ _ (same_int v.zone)
    (and_from _ _ (same_bytes v.address) (and_from _ _ (same_int v.port)
    (and_from _ _ (same_bytes v.name) (and_from _ _ (same_int v.weight) (same_int v.removed))))))

pub decides_device : (x y : Device) → x.row.address < address_limit → y.row.address < address_limit
    → Decides (is_same_device (device_value x) (device_value y)) ((x.row ≡ y.row) ×
    (x.removed ≡ y.removed))
decides_device x y ax ay = (
  λ t.
      let a = and_parts _ _ t in
      let b = and_parts _ _ a.1 in
      let d = and_parts _ _ b.1 in
      let e = and_parts _ _ d.1 in
      let f = and_parts _ _ e.1 in
      let g = and_parts _ _ f.1 in
      let address = one_address x.row.address y.row.address ax ay ((bytes_eq-Decides _ _).0 d.0) in
      let called = (bytes_eq-Decides x.row.name y.row.name).0 f.0 in
      let region = one_int x.row.region y.row.region a.0 in
      let zone = one_int x.row.zone y.row.zone b.0 in
      let port = one_int x.row.port y.row.port e.0 in
      let weight = one_int x.row.weight y.row.weight g.0 in (
        λ i. record {
          region = region i;
          zone = zone i;
          address = address i;
          port = port i;
          name =
              called i;
          weight = weight i;
        },
        one_mark x.removed y.removed ((Decides-int_eq _ _).0 g.1),
      ),
  λ h. ap (λ v. is_same_device v (device_value y)) (let same : device_value x ≡ device_value y =
      (λ i. device_value (record { id = y.id; row = h.0 i; removed = h.1 i })) in same) ∙
      device_itself (device_value y),
)

-- a device is among others with the same row, or it is not
pub found_device : (found : Option Device) (device : Device) (r : Bool) →
    IfSome found (λ other. Decides r ((other.row ≡ device.row) × (other.removed ≡ device.removed)) ×
    ((other.row.address < address_limit) × (device.row.address < address_limit)))
    → (found ≡ None → r ≡ false) → r ≡ has_same is_same_device (option_map device_value found)
    (device_value device)
found_device None device r some none = none refl
found_device (Some other) device r some none =
    same_from_decides _ _ some.0 (decides_device other device some.1.0 some.1.1)

pub part_itself : (v : rows.Part) → is_same_part v v ≡ true
part_itself v = and_from _ _ (same_bytes v.devices) (same_int v.hour)

pub decides_part : (a b : List ℕ) (h k : Option ℕ)
    → Decides (is_same_part (record { devices = flat_map two_bytes a; hour = hour_number h })
    (record { devices = flat_map two_bytes b; hour = hour_number k })) ((a ≡ b) × (h ≡ k))
decides_part a b h k = (
  λ t. let p = and_parts _ _ t in (
    one_seating a b ((bytes_eq-Decides _ _).0 p.0),
    one_hour h k ((Decides-int_eq _ _).0 p.1),
  ),
  λ e. and_from _ _ ((bytes_eq-Decides _ _).1 (ap (flat_map two_bytes) e.0)) ((Decides-int_eq _ _).1
      (ap hour_number e.1)),
)

pub within : (p n r len : ℕ) → p < n → len ≡ n * r → p * r + r ≤ len
within p n r len lt is = let low : suc p * r ≤ n * r = mul-le-mul_right r (let h : suc p ≤ n =
    omega arith in h) in omega (arith, suc-mul p r)

-- a ring has a partition with the same row
pub found_part : (one other : RingRecord) (p : ℕ) (r : Bool) → p < length one.moved
    → Decides r ((take one.replicas (drop (p * one.replicas) one.seats) ≡ take other.replicas
    (drop (p * other.replicas) other.seats)) ×
    (slice_index_or one.moved p None ≡ slice_index_or other.moved p None))
    → r ≡ has_same is_same_part (option_map (part_value one p) (slice_get one.moved p))
    (part_value other p (slice_index_or other.moved p None))
found_part one other p r lt same =
    same_from_decides _ _ same (decides_part (take one.replicas (drop (p * one.replicas) one.seats))
    (take other.replicas (drop (p * other.replicas) other.seats)) (slice_index_or one.moved p
    None) (slice_index_or other.moved p None))
    ∙ ap (λ o. has_same is_same_part (option_map (part_value one p) o)
    (part_value other p (slice_index_or other.moved p None)))
    (sym (slice_get-get_or one.moved p None lt))

pub no_part : (one : RingRecord) (p : ℕ) (v : rows.Part) → length one.moved ≤ p →
    false ≡ has_same is_same_part (option_map (part_value one p) (slice_get one.moved p)) v
no_part one p v le = ap (λ o. has_same is_same_part (option_map (part_value one p) o) v)
    (sym (slice_get_past one.moved p le))
