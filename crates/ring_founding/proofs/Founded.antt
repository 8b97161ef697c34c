-- What follows of rings that come in.
use Rattle.std.proofs.Common.{◌≡◌, ◌≢◌, Bool, false, cond, ◌⊎◌, ⊎_elim, inl, inr, ℕ, zero, suc}
use Rattle.std.proofs.Common.{take, drop, Option, ◌+◌, ◌*◌, ◌^◌, ◌<◌, ◌≤◌, true, true≢false, List}
use Rattle.std.proofs.Common.{[], ◌∷◌, ◌++◌, length, get_or, Some, None, refl, sym, ap, ◌∙◌, subst}
use Rattle.std.proofs.Common.{arith}
use Rattle.std.specs.Prelude.{All, Any, IsTrue, filter, find, is_some, nat_eq}
use Rattle.std.specs.Option.{option_map}
use Rattle.std.specs.Ordering.{is_eq, is_lt}
use Rattle.std.specs.Cmp.Lexicographic.{pointwise, nat_list_cmp_total, texts_ties}
use Rattle.std.proofs.lemmas.Cmp.{tied_itself}
use Rattle.std.proofs.lemmas.List.Folds.{find-append}
use Rattle.std.proofs.lemmas.Slice.Eq.{bytes_eq-Decides}
use Rattle.std.proofs.Math.Nat.{mul-pos}
use Rattle.std.proofs.lemmas.Nat.{pow_pos}
use Rattle.std.proofs.lemmas.List.{get_or-replicate, get_or_append_left, length-append}
use Rattle.std.proofs.lemmas.List.{length-replicate, take_more}
use Rattle.std.proofs.lemmas.List.{drop_more, take-append-drop}
use Rattle.std.proofs.lemmas.List.Quantifiers.{Any-push}
use Rattle.std.proofs.lemmas.List.Elements.{All-append, All-cons, All-filter, All-head, All-nil}
use Rattle.std.proofs.lemmas.List.Elements.{All-push, All-replicate, All-tail, All-weaker}
use Rattle.ring_words.specs.Limits.{greatest_short, long_count, most_ids, most_rings}
use Rattle.ring_words.specs.Texts.{is_label}
use Rattle.ring_words.specs.declared.device.Device.{Device}
use Rattle.ring_model.specs.Ring.{RingRecord, has_device, moved_at, partition_count}
use Rattle.ring_model.specs.Rings.{AreByName, is_before, ring_at, with_ring}
use Rattle.ring_model.specs.Valid.{AreDevices, ArePublished, IsHour, IsValid, IsVersioned}
use Rattle.ring_model.proofs.ByName.{at_most_with, by_name_with, ring_at-with_other}
use Rattle.ring_text.specs.Snapshot.{IsValidSnapshot, SnapshotRecord, snapshot_of}
use Rattle.ring_founding.specs.Founding.{AreFounded, AreUnfounded, IsFounded, IsNextNumber}
use Rattle.ring_founding.specs.Founding.{IsAmong, IsUnfounded}
use Rattle.ring_founding.specs.declared.founding.FoundFault.{FoundFault}
use Rattle.ring_founding.specs.declared.founding.Terms.{Terms}

-- seats that are taken are on a device
some_device : (devices : List Device) (seats : List ℕ) → 0 < length seats →
    All (λ id. has_device id devices ≡ true) seats → 0 < length devices
some_device [] seats some known = absurd (true≢false (sym (known zero zero some)))
some_device (device ∷ devices) seats some known = omega arith

-- a snapshot has devices
pub has_devices : (snapshot : SnapshotRecord) → IsValidSnapshot snapshot →
    0 < length snapshot.devices
has_devices snapshot valid =
    let replicas : 0 < snapshot.replicas = valid.replicas.0 in
    let taken : 0 < 2 ^ snapshot.power * snapshot.replicas = mul-pos (pow_pos snapshot.power)
    replicas in
    some_device snapshot.devices snapshot.seats (omega (arith, taken, valid.taken))
    valid.seats.known

-- the number beyond the greatest is one that may be given
next_within : (devices : List Device) (next : ℕ) → AreDevices most_ids devices →
    IsNextNumber devices next → next ≤ most_ids
next_within devices next are is =
    let place : ℕ = is.reached.0 in
    let device : Device = is.reached.1 in
    let below : (get_or devices place device).id < most_ids = are.below place device is.reached.2 in
    let same : (get_or devices place device).id ≡ device.id = ap (λ (d : Device). d.id) is.reached.3
    in
    omega (arith, below, same, is.reached.4)

none_published : ArePublished []
none_published = record {
  count = omega arith;
  rise = search arith;
  versions = All-nil IsVersioned;
}

-- a ring that came in is valid
pub valid_founded : (terms : Terms) (snapshot : SnapshotRecord) (ring : RingRecord) →
    IsValidSnapshot snapshot → terms.hour < long_count → terms.min_hours ≤ greatest_short →
    IsFounded terms snapshot ring → IsValid ring
valid_founded terms snapshot ring valid hour hours is = record {
  power = rw is.power valid.power;
  replicas = rw is.replicas valid.replicas;
  min_hours = rw is.min_hours hours;
  next_id = next_within snapshot.devices ring.next_id valid.devices is.next_id;
  version = rw is.version (omega (arith, valid.version));
  devices = rw is.devices (record {
    count = valid.devices.count;
    below = is.next_id.beyond;
    rise = valid.devices.rise;
    apart = valid.devices.apart;
    proper = valid.devices.proper;
  });
  seats = rw (is.power, is.replicas, is.devices, is.seats) valid.seats;
  moved = rw (is.moved, is.power) (length-replicate (2 ^ snapshot.power) (Some terms.hour));
  hours = rw is.moved (All-replicate IsHour (2 ^ snapshot.power) (Some terms.hour) hour);
  published = rw is.published none_published;
}

-- the snapshot of a ring that came in is the one that it came from
pub same_snapshot : (terms : Terms) (snapshot : SnapshotRecord) (ring : RingRecord) →
    IsFounded terms snapshot ring → snapshot_of snapshot.name ring ≡ snapshot
same_snapshot terms snapshot ring is = rw (
  is.version,
  is.power,
  is.replicas,
  is.devices,
  is.seats,
) refl

-- each partition of a ring that came in counts as moved then
pub moved_then : (terms : Terms) (snapshot : SnapshotRecord) (ring : RingRecord) (partition : ℕ) →
    IsFounded terms snapshot ring → partition < partition_count ring →
    moved_at ring partition ≡ Some terms.hour
moved_then terms snapshot ring partition is lt =
    let within : partition < 2 ^ snapshot.power = rw is.power at lt in
    rw is.moved (get_or-replicate (2 ^ snapshot.power) partition (Some terms.hour) None within)

-- ---- the number beyond the greatest

any_sooner : {X : Type 0} (P : X → Type 0) (xs : List X) (y : X) → Any P xs → Any P (xs ++ y ∷ [])
any_sooner P xs y found = (
  found.0,
  found.1,
  omega (arith, found.2, length-append xs (y ∷ [])),
  get_or_append_left xs (y ∷ []) found.1 found.0 found.2 ∙ found.3,
  found.4,
)

cases_zero : (k : ℕ) → (k ≡ 0) ⊎ (0 < k)
cases_zero zero = inl refl
cases_zero (suc k) = inr (omega arith)

-- the number beyond one more device
pub next_more : (devices : List Device) (i : ℕ) (x : Device) (n m : ℕ) → i < length devices →
    x ≡ get_or devices i x → All (λ device. device.id < n) (take i devices) → (0 < i →
    Any (λ device. device.id + 1 ≡ n) (take i devices)) → (i ≡ 0 → n ≡ 0) → n ≤ m → x.id < m →
    (m ≡ n) ⊎ (m ≡ x.id + 1) → IsNextNumber (take (i + 1) devices) m
next_more devices i x n m lt is below reached none low above which =
    let P : Device → Type 0 = λ device. device.id + 1 ≡ m in
    let Below : Device → Type 0 = λ device. device.id < m in
    let more : take (i + 1) devices ≡ take i devices ++ x ∷ [] = take_more devices i x lt ∙ ap
    (λ (d : Device). take i devices ++ d ∷ []) (sym is) in
    record {
      beyond = rw more (All-push Below (take i devices) x (All-weaker
          (λ (d : Device). d.id < n) Below (λ d h. omega arith) (take i devices) below) above);
      reached = rw more (⊎_elim
          (λ same. any_sooner P (take i devices) x (subst (λ (k : ℕ).
          Any (λ (d : Device). d.id + 1 ≡ k) (take i devices)) (sym same)
          (reached (some same))))
          (λ here. Any-push P (take i devices) x (sym here)) which);
    }
  where
    some : m ≡ n → 0 < i
    some same = ⊎_elim (λ first. absurd (omega (arith, none first, same, above))) (λ later. later)
        (cases_zero i)

-- ---- rings beside others

-- a name that is taken
pub ring_there : {X : Type 0} (f : X → RingRecord) (found : Option X) (ring : Option RingRecord) →
    is_some found ≡ true → option_map f found ≡ ring → (there : RingRecord) × (ring ≡ Some there)
ring_there f (Some x) ring some is = (f x, sym is)
ring_there f None ring some is = absurd (true≢false (sym some))

-- rings that came in after others
pub founded_more : (terms : Terms) (rings mid last : List (List ℕ × RingRecord))
    (few later : List SnapshotRecord) → AreFounded terms rings few mid →
    AreFounded terms mid later last → AreFounded terms rings (few ++ later) last
founded_more terms rings mid last [] later a b =
    subst (λ (r : List (List ℕ × RingRecord)). AreFounded terms r later last) a b
founded_more terms rings mid last (snapshot ∷ few) later a b = (
  a.0,
  a.1,
  a.2,
  a.3,
  founded_more terms (with_ring rings snapshot.name a.0) mid last few later a.4 b,
)

each_with : (P : List ℕ × RingRecord → Type 0) (rings : List (List ℕ × RingRecord))
    (name : List ℕ) (ring : RingRecord) → All P rings → P (name, ring) →
    All P (with_ring rings name ring)
each_with P rings name ring all here =
    All-append P (filter (λ e. is_before e.0 name) rings) ((name, ring) ∷ filter
    (λ e. is_before name e.0) rings) (All-filter (λ e. is_before e.0 name) P rings all)
    (All-cons P (name, ring) (filter (λ e. is_before name e.0) rings) here
    (All-filter (λ e. is_before name e.0) P rings all))

-- what holds of each ring, and of each that comes in, holds of each in the end
pub each_founded : (P : List ℕ × RingRecord → Type 0) (terms : Terms)
    (rings : List (List ℕ × RingRecord)) (snapshots : List SnapshotRecord)
    (founded : List (List ℕ × RingRecord)) → ((snapshot : SnapshotRecord) (ring : RingRecord) →
    IsValidSnapshot snapshot → IsFounded terms snapshot ring → P (snapshot.name, ring)) →
    All IsValidSnapshot snapshots → All P rings → AreFounded terms rings snapshots founded →
    All P founded
each_founded P terms rings [] founded each valid all is = subst (All P) (sym is) all
each_founded P terms rings (snapshot ∷ later) founded each valid all is =
    each_founded P terms (with_ring rings snapshot.name is.0) later founded each
    (All-tail IsValidSnapshot snapshot later valid)
    (each_with P rings snapshot.name is.0 all
    (each snapshot is.0 (All-head IsValidSnapshot snapshot later valid) is.1)) is.4

pub valid_each : (terms : Terms) (rings : List (List ℕ × RingRecord))
    (snapshots : List SnapshotRecord) (founded : List (List ℕ × RingRecord)) →
    terms.hour < long_count → terms.min_hours ≤ greatest_short → All IsValidSnapshot snapshots →
    AreFounded terms rings snapshots founded → All (λ named. IsValid named.1) rings →
    All (λ named. IsValid named.1) founded
valid_each terms rings snapshots founded hour hours valid is all =
    each_founded (λ named. IsValid named.1) terms rings snapshots founded
    (λ snapshot ring good of. valid_founded terms snapshot ring good hour hours of) valid all is

pub named_each : (terms : Terms) (rings : List (List ℕ × RingRecord))
    (snapshots : List SnapshotRecord) (founded : List (List ℕ × RingRecord)) →
    All IsValidSnapshot snapshots → AreFounded terms rings snapshots founded →
    All (λ named. IsTrue (is_label named.0)) rings →
    All (λ named. IsTrue (is_label named.0)) founded
named_each terms rings snapshots founded valid is all =
    each_founded (λ named. IsTrue (is_label named.0)) terms rings snapshots founded
    (λ snapshot ring good of. good.name) valid all is

pub by_name_founded : (terms : Terms) (rings : List (List ℕ × RingRecord))
    (snapshots : List SnapshotRecord) (founded : List (List ℕ × RingRecord)) →
    AreFounded terms rings snapshots founded → AreByName rings → AreByName founded
by_name_founded terms rings [] founded is sorted = subst AreByName (sym is) sorted
by_name_founded terms rings (snapshot ∷ later) founded is sorted =
    by_name_founded terms (with_ring rings snapshot.name is.0) later founded is.4
    (by_name_with rings snapshot.name is.0 sorted)

pub few_founded : (terms : Terms) (rings : List (List ℕ × RingRecord))
    (snapshots : List SnapshotRecord) (founded : List (List ℕ × RingRecord)) →
    AreFounded terms rings snapshots founded → length rings ≤ most_rings →
    length founded ≤ most_rings
few_founded terms rings [] founded is few =
    subst (λ (r : List (List ℕ × RingRecord)). length r ≤ most_rings) (sym is) few
few_founded terms rings (snapshot ∷ later) founded is few =
    few_founded terms (with_ring rings snapshot.name is.0) later founded is.4
    (at_most_with rings snapshot.name is.0 most_rings few (λ new. is.3))

-- the first that can't come in
pub unfounded_at : (terms : Terms) (rings mid : List (List ℕ × RingRecord))
    (snapshots : List SnapshotRecord) (i : ℕ) (snapshot : SnapshotRecord) (why : FoundFault) →
    i < length snapshots → snapshot ≡ get_or snapshots i snapshot →
    AreFounded terms rings (take i snapshots) mid → IsUnfounded mid snapshot why →
    AreUnfounded terms rings snapshots why
unfounded_at terms rings mid snapshots i snapshot why lt is founded unfounded = (
  take i snapshots,
  snapshot,
  drop (i + 1) snapshots,
  mid,
  sym (take-append-drop i snapshots) ∙ ap (λ (s : List SnapshotRecord). take i snapshots ++
      s) (drop_more snapshots i snapshot lt ∙ ap (λ (s : SnapshotRecord). s ∷
      drop (i + 1) snapshots) (sym is)),
  founded,
  unfounded,
)

pub founded_pushed : (terms : Terms) (rings mid last : List (List ℕ × RingRecord))
    (snapshots : List SnapshotRecord) (i : ℕ) (snapshot : SnapshotRecord) → i < length snapshots →
    snapshot ≡ get_or snapshots i snapshot → AreFounded terms rings (take i snapshots) mid →
    AreFounded terms mid (snapshot ∷ []) last → AreFounded terms rings (take (i + 1) snapshots) last
founded_pushed terms rings mid last snapshots i snapshot lt is founded one =
    let more : take (i + 1) snapshots ≡ take i snapshots ++ snapshot ∷ [] =
    take_more snapshots i snapshot lt ∙ ap (λ (s : SnapshotRecord). take i snapshots ++ s ∷ [])
    (sym is) in
    rw more (founded_more terms rings mid last (take i snapshots) (snapshot ∷ []) founded one)

-- ---- where the rings stand

same_name : (name : List ℕ) → pointwise nat_eq name name ≡ true
same_name name = texts_ties name name ∙ ap is_eq (tied_itself nat_list_cmp_total name)

not_before_itself : (name other : List ℕ) → pointwise nat_eq other name ≡ true →
    is_before other name ≡ false
not_before_itself name other is =
    ap (λ (n : List ℕ). is_before n name) ((bytes_eq-Decides other name).0 is) ∙ ap is_lt
    (tied_itself nat_list_cmp_total name)

-- none of the rings before a name has it
none_first : (p q : List ℕ × RingRecord → Bool) (x : List ℕ × RingRecord)
    (xs : List (List ℕ × RingRecord)) (a b : Bool) → p x ≡ a → q x ≡ b → (p x ≡ true →
    q x ≡ false) → find p (filter q xs) ≡ None → find p (cond (q x) (x ∷ filter q xs)
    (filter q xs)) ≡ None
none_first p q x xs true false e f h rest = rw f rest
none_first p q x xs false false e f h rest = rw f rest
none_first p q x xs false true e f h rest = rw (f, e) rest
none_first p q x xs true true e f h rest = absurd (true≢false (sym f ∙ h e))

none_before : (p q : List ℕ × RingRecord → Bool) (xs : List (List ℕ × RingRecord)) →
    ((x : List ℕ × RingRecord) → p x ≡ true → q x ≡ false) → find p (filter q xs) ≡ None
none_before p q [] h = refl
none_before p q (x ∷ xs) h = none_first p q x xs (p x) (q x) refl refl (h x)
    (none_before p q xs h)

ring_with : (rings : List (List ℕ × RingRecord)) (name : List ℕ) (ring : RingRecord) →
    ring_at name (with_ring rings name ring) ≡ Some ring
ring_with rings name ring =
    let p : List ℕ × RingRecord → Bool = λ e. pointwise nat_eq e.0 name in
    let lower : List ℕ × RingRecord → Bool = λ e. is_before e.0 name in
    let upper : List ℕ × RingRecord → Bool = λ e. is_before name e.0 in
    let none : find p (filter lower rings) ≡ None = none_before p lower rings
    (λ e h. not_before_itself name e.0 h) in
    let mine : pointwise nat_eq name name ≡ true = same_name name in
    let found : find p (with_ring rings name ring) ≡ Some (name, ring) =
    find-append p (filter lower rings) ((name, ring) ∷ filter upper rings) ∙ rw (none, mine) refl in
    ap (option_map (λ e. e.1)) found

-- a ring stays under its name when others come in
kept_ring : (terms : Terms) (rings founded : List (List ℕ × RingRecord))
    (snapshots : List SnapshotRecord) (name : List ℕ) (ring : RingRecord) →
    AreFounded terms rings snapshots founded → ring_at name rings ≡ Some ring →
    ring_at name founded ≡ Some ring
kept_ring terms rings founded [] name ring is there = rw is there
kept_ring terms rings founded (snapshot ∷ later) name ring is there =
    let other : name ≡ snapshot.name → ⊥ = λ same. none_taken
    (sym there ∙ ap (λ (n : List ℕ). ring_at n rings) same ∙ is.2) in
    kept_ring terms (with_ring rings snapshot.name is.0) founded later name ring is.4
    (ring_at-with_other rings snapshot.name name is.0 other ∙ there)
  where
    none_taken : Some ring ≡ None → ⊥
    none_taken e = cc

-- each snapshot's ring is there in the end
pub each_among : (terms : Terms) (rings founded : List (List ℕ × RingRecord))
    (snapshots : List SnapshotRecord) → AreFounded terms rings snapshots founded →
    All (IsAmong terms founded) snapshots
each_among terms rings founded [] is = All-nil (IsAmong terms founded)
each_among terms rings founded (snapshot ∷ later) is =
    All-cons (IsAmong terms founded) snapshot later (record {
      ring = is.0;
      is = is.1;
      there = kept_ring terms (with_ring rings snapshot.name is.0) founded later snapshot.name is.0
          is.4 (ring_with rings snapshot.name is.0);
    }) (each_among terms (with_ring rings snapshot.name is.0) founded later is.4)

-- a name that no snapshot has keeps its ring
pub others_stay : (terms : Terms) (rings founded : List (List ℕ × RingRecord))
    (snapshots : List SnapshotRecord) (name : List ℕ) → AreFounded terms rings snapshots founded →
    All (λ snapshot. snapshot.name ≢ name) snapshots → ring_at name founded ≡ ring_at name rings
others_stay terms rings founded [] name is none = ap (ring_at name) is
others_stay terms rings founded (snapshot ∷ later) name is none =
    others_stay terms (with_ring rings snapshot.name is.0) founded later name is.4
    (All-tail (λ s. s.name ≢ name) snapshot later none)
    ∙ ring_at-with_other rings snapshot.name name is.0
    (λ same. All-head (λ s. s.name ≢ name) snapshot later none (sym same))
