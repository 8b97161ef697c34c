-- The first lines of a text, and what they say of the rest.
use Rattle.std.proofs.Common.{lit<, ◌≡◌, ℕ, ◌^◌, ◌<◌, List, [], ◌∷◌, ◌++◌, length, take, drop}
use Rattle.std.proofs.Common.{map, decimal, refl, sym, ap, ap₂, subst, ◌∙◌, append_assoc, arith}
use Rattle.std.specs.Prelude.{codes}
use Rattle.std.specs.List.{join_with_byte}
use Rattle.std.proofs.lemmas.List.{map-append, length-map, take_at, drop_at}
use Rattle.std.proofs.lemmas.List.{take-append-drop, append_cancel_left}
use Rattle.std.proofs.lemmas.List.FromFn.{length-range_with_len}
use Rattle.ring_words.proofs.Decimals.{same_number}
use Rattle.ring_words.specs.declared.device.Device.{Device}
use Rattle.ring_text.specs.Snapshot.{SnapshotRecord, IsValidSnapshot}
use Rattle.ring_text.specs.Spelling.{head_lines, device_line, partition_lines}
use Rattle.ring_text.specs.Inner.Reading.{text_at, IsHead, IsNumberAfter, IsNameAfter, IsCut}
use Rattle.ring_text.specs.Inner.Reading.{AreDeviceLines, ArePartitionLines, IsMadeOfLines}
use Rattle.ring_text.specs.Inner.Reading.{AreRingLines, made}
use Rattle.ring_text.specs.declared.head.Head.{Head}
pub use Rattle.ring_text.specs.Inner.Stopping.{texts_of_devices, head_of, last_texts}
pub use Rattle.ring_text.specs.Inner.Stopping.{texts_of_partitions}
use Rattle.ring_text.proofs.Text.{seats_below}
use Rattle.ring_text.proofs.Devices.{same_devices}
use Rattle.ring_text.proofs.Partitions.{same_seats}
use Rattle.ring_text.proofs.Cutting.{one_cut}

abbrev Texts : Type 0
Texts = List (List ℕ)

abbrev joined : Texts → List ℕ
joined words = join_with_byte 32 words

-- the first lines of a snapshot's text
abbrev pub first_texts : SnapshotRecord → Texts
first_texts s = map joined (head_lines s)

regrouped : (h d r : List Texts) (a e : Texts) → map joined (h ++ d ++ a ∷ [] ++ r ++ e ∷ []) ++
    [] ∷ [] ≡ map joined h ++ (map joined d ++ joined a ∷ (map joined r ++ joined e ∷ [] ∷ []))
regrouped h d r a e = simp (map-append, append_assoc)

pub whole_text : (ts : Texts) (s : SnapshotRecord) → AreRingLines ts s → ts ≡ first_texts s ++
    last_texts s
whole_text ts s are = are.are ∙ regrouped (head_lines s) (map device_line s.devices)
    (partition_lines (2 ^ s.power) s.replicas s.seats) (codes "seats" ∷ []) (codes "end" ∷ [])

pub length-first_texts : (s : SnapshotRecord) → length (first_texts s) ≡ 6
unfolding head_lines
length-first_texts s = refl

pub head_is : (s : SnapshotRecord) → IsValidSnapshot s → IsHead (first_texts s) (head_of s)
unfolding head_lines
head_is s v = record {
  count = refl;
  form = refl;
  name = record { is = refl; valid = v.name };
  version = record { is = refl; above = omega arith; below = omega (arith, v.version) };
  power = record { is = refl; above = v.power.0; below = v.power.1 };
  replicas = record { is = refl; above = v.replicas.0; below = v.replicas.1 };
  devices = record { is = refl; above = omega arith; below = omega (arith, v.devices.count) };
}

-- ---- first lines tell one thing

number_after : (key text : List ℕ) (l m a b : ℕ) → m < 2 ^ 32 → IsNumberAfter key text l m a →
    IsNumberAfter key text l m b → a ≡ b
number_after key text l m a b small h i = same_number a b (omega (arith, h.below))
    (omega (arith, i.below)) (append_cancel_left key (decimal a) (decimal b) (sym h.is ∙ i.is))

name_after : (key text a b : List ℕ) → IsNameAfter key text a → IsNameAfter key text b → a ≡ b
name_after key text a b h i = append_cancel_left key a b (sym h.is ∙ i.is)

abbrev head : List ℕ → ℕ → ℕ → ℕ → ℕ → Head
head n v p r d = record { name = n; version = v; power = p; replicas = r; devices = d }

pub one_head : (ts : Texts) (g h : Head) → IsHead ts g → IsHead ts h → g ≡ h
one_head ts g h a b =
    ap (λ (x : List ℕ). head x g.version g.power g.replicas g.devices) (name_after _ _ _ _ a.name
    b.name)
    ∙ ap (λ (x : ℕ). head h.name x g.power g.replicas g.devices) (number_after _ _ _ _ _ _ (lit< tt)
    a.version b.version)
    ∙ ap (λ (x : ℕ). head h.name h.version x g.replicas g.devices) (number_after _ _ _ _ _ _
    (lit< tt) a.power b.power)
    ∙ ap (λ (x : ℕ). head h.name h.version h.power x g.devices) (number_after _ _ _ _ _ _ (lit< tt)
    a.replicas b.replicas)
    ∙ ap (λ (x : ℕ). head h.name h.version h.power h.replicas x) (number_after _ _ _ _ _ _ (lit< tt)
    a.devices b.devices)

-- ---- the parts of a text

cut_is_of : (s : SnapshotRecord) → IsCut (length s.devices) (2 ^ s.power) (last_texts s)
    (texts_of_devices s, texts_of_partitions s)
cut_is_of s = record {
  is = refl;
  devices = simp length-map;
  partitions = simp (length-map, length-range_with_len);
}

-- The parts that the first lines and the lines after them are of one snapshot.
pub record PartsAre (ts : Texts) (g : Head) (first second : Texts) (s : SnapshotRecord) : Type 0
  where
    pub head : g ≡ head_of s
    pub devices : AreDeviceLines first s.devices
    pub seats : ArePartitionLines g.replicas second s.seats

pub parts_are : (ts : Texts) (g : Head) (x : Texts × Texts) (s : SnapshotRecord) →
    IsHead (take 6 ts) g → IsCut g.devices (2 ^ g.power) (drop 6 ts) x → AreRingLines ts s →
    PartsAre ts g x.0 x.1 s
parts_are ts g x s tells cut are =
    let v = are.valid in
    let whole = whole_text ts s are in
    let front : take 6 ts ≡ first_texts s = ap (take 6) whole ∙ take_at (first_texts s)
    (last_texts s) 6 (length-first_texts s) in
    let back : drop 6 ts ≡ last_texts s = ap (drop 6) whole ∙ drop_at (first_texts s) (last_texts s)
    6 (length-first_texts s) in
    let same : g ≡ head_of s = one_head (first_texts s) g (head_of s) (rw front at tells)
    (head_is s v) in
    let there : IsCut (length s.devices) (2 ^ s.power) (last_texts s) x =
    rw back at (subst (λ (h : Head). IsCut h.devices (2 ^ h.power) (drop 6 ts) x) same cut) in
    let pair = one_cut (length s.devices) (2 ^ s.power) (last_texts s) x (
      texts_of_devices s,
      texts_of_partitions s,
    ) there (cut_is_of s) in
    let count : length x.1 ≡ 2 ^ s.power = there.partitions in
    let replicas : g.replicas ≡ s.replicas = ap (λ (h : Head). h.replicas) same in
    record {
      head = same;
      devices = record { are = pair.0; ids = λ k d lt. v.devices.below k d lt; limits = v.devices.proper };
      seats = rw replicas (record {
        are = rw count pair.1;
        count = rw count v.taken;
        limits =
            seats_below s v;
      });
    }

pub head_within : (ts : Texts) (s : SnapshotRecord) → AreRingLines ts s →
    IsHead (take 6 ts) (head_of s)
head_within ts s are =
    let front : take 6 ts ≡ first_texts s = ap (take 6) (whole_text ts s are) ∙ take_at
    (first_texts s) (last_texts s) 6 (length-first_texts s) in
    rw front (head_is s are.valid)

pub cut_within : (ts : Texts) (g : Head) (s : SnapshotRecord) → IsHead (take 6 ts) g →
    AreRingLines ts s → IsCut g.devices (2 ^ g.power) (drop 6 ts) (
      texts_of_devices s,
      texts_of_partitions
          s,
    )
cut_within ts g s tells are =
    let back : drop 6 ts ≡ last_texts s = ap (drop 6) (whole_text ts s are) ∙ drop_at
    (first_texts s) (last_texts s) 6 (length-first_texts s) in
    let same : g ≡ head_of s = one_head (take 6 ts) g (head_of s) tells (head_within ts s are) in
    rw back (subst (λ (h : Head). IsCut h.devices (2 ^ h.power) (last_texts s) (
      texts_of_devices s,
      texts_of_partitions s,
    )) (sym same) (cut_is_of s))

-- ---- from the parts to the text

six : (ts : Texts) → length ts ≡ 6 → ts ≡ text_at ts 0 ∷ text_at ts 1 ∷ text_at ts 2 ∷
    text_at ts 3 ∷ text_at ts 4 ∷ text_at ts 5 ∷ []
six (a ∷ b ∷ c ∷ d ∷ e ∷ f ∷ []) l = refl
six ts l = absurd (omega arith)

first_texts_of : (ts : Texts) (s : SnapshotRecord) → IsHead ts (head_of s) → ts ≡ first_texts s
unfolding head_lines
first_texts_of ts s h = six ts h.count ∙ rw (
  h.form,
  h.name.is,
  h.version.is,
  h.power.is,
  h.replicas.is,
  h.devices.is,
) refl

-- the parts that are read are those of the text of the snapshot that they make
pub lines_made : (ts : Texts) (g : Head) (x : Texts × Texts) (ds : List Device) (seats : List ℕ) →
    IsHead (take 6 ts) g → IsCut g.devices (2 ^ g.power) (drop 6 ts) x → AreDeviceLines x.0 ds →
    ArePartitionLines g.replicas x.1 seats
    → IsValidSnapshot (made g ds seats) → AreRingLines ts (made g ds seats)
lines_made ts g x ds seats tells cut devices partitions valid =
    let s : SnapshotRecord = made g ds seats in
    let count : length ds ≡ g.devices =
    sym (simp length-map at (ap (λ (t : Texts). length t) devices.are)) ∙ cut.devices in
    let front : take 6 ts ≡ first_texts s = first_texts_of (take 6 ts) s (rw count tells) in
    let rows : x.1 ≡ texts_of_partitions s = rw cut.partitions at partitions.are in
    let back : drop 6 ts ≡ last_texts s = cut.is ∙ ap₂ (λ (a b : Texts). a ++ codes "seats" ∷
    (b ++ codes "end" ∷ [] ∷ [])) devices.are rows in
    record {
      valid = valid;
      are = sym (take-append-drop 6 ts) ∙ ap₂ (λ (a b : Texts). a ++ b) front back ∙ sym
          (regrouped (head_lines s) (map device_line s.devices) (partition_lines (2 ^ s.power)
          s.replicas s.seats) (codes "seats" ∷ []) (codes "end" ∷ []));
    }

pub lines_of_parts : (ts : Texts) (g : Head) (x : Texts × Texts) (ds : List Device) (seats : List ℕ)
    (s : SnapshotRecord) → IsHead (take 6 ts) g → IsCut g.devices (2 ^ g.power) (drop 6 ts) x →
    AreDeviceLines x.0 ds → ArePartitionLines g.replicas x.1 seats
    → IsMadeOfLines g ds seats s → AreRingLines ts s
lines_of_parts ts g x ds seats s tells cut devices partitions is =
    subst (λ (t : SnapshotRecord). AreRingLines ts t) (sym is.is) (lines_made ts g x ds seats tells
    cut
    devices partitions (subst (λ (t : SnapshotRecord). IsValidSnapshot t) is.is is.valid))

-- parts that are read make the snapshot of the lines
pub lines_of_made : (ts : Texts) (g : Head) (x : Texts × Texts) (ds : List Device) (seats : List ℕ)
    (s : SnapshotRecord) → IsHead (take 6 ts) g → IsCut g.devices (2 ^ g.power) (drop 6 ts) x →
    AreDeviceLines x.0 ds → ArePartitionLines g.replicas x.1 seats
    → AreRingLines ts s → IsMadeOfLines g ds seats s
lines_of_made ts g x ds seats s tells cut devices partitions are =
    let parts = parts_are ts g x s tells cut are in
    let some : 0 < g.replicas = tells.replicas.above in
    let d = same_devices x.0 ds s.devices devices parts.devices in
    let t = same_seats g.replicas x.1 seats s.seats some partitions parts.seats in
    record {
      valid = are.valid;
      is = sym (ap (λ (h : Head). made h ds seats) parts.head ∙ ap
          (λ (y : List Device). made (head_of s) y seats) d ∙ ap (λ (y : List ℕ). made (head_of s)
          s.devices y) t);
    }
