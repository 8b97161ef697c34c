-- A text is its lines.
use Rattle.std.proofs.Common.{lit<, lit≤, ◌≡◌, ℕ, ◌+◌, ◌*◌, ◌-◌, ◌^◌, ◌<◌, ◌≤◌, true, false}
use Rattle.std.proofs.Common.{true≢false, List, [], ◌∷◌, ◌++◌, length, get_or, drop, map, decimal}
use Rattle.std.proofs.Common.{refl, sym, ap, ⊎_elim, ◌∙◌, append_assoc, append-nil, arith}
use Rattle.std.specs.Prelude.{All, IsUtf8, ◌==◌, codes}
use Rattle.std.specs.List.{flat_map, join_with_byte, slice_split, slice_range, range_with_len}
use Rattle.std.proofs.lemmas.Bool.{ne_eqb, eqb-true, or_cases}
use Rattle.std.proofs.lemmas.List.Elements.{All-nil, All-cons, All-head, All-tail, All-append}
use Rattle.std.proofs.lemmas.List.Elements.{All-map, All-weaker, All-take, All-drop}
use Rattle.std.proofs.lemmas.List.Elements.{All-from_recursion}
use Rattle.std.proofs.lemmas.List.Splits.{slice_split_at, join_with_byte-slice_split}
use Rattle.std.proofs.lemmas.Str.{IsUtf8-from_ascii}
use Rattle.std.proofs.lemmas.Str.Ascii.{IsAscii-from_all}
use Rattle.ring_model.specs.Ring.{has_device}
use Rattle.ring_words.specs.declared.device.Device.{Device}
use Rattle.ring_text.specs.Snapshot.{SnapshotRecord, IsValidSnapshot}
use Rattle.ring_text.specs.Spelling.{line, head_lines, device_line, partition_line, partition_lines}
use Rattle.ring_text.specs.Spelling.{lines_of, spelling, Spells}
use Rattle.ring_text.specs.Inner.Reading.{AreRingLines}
use Rattle.ring_text.proofs.Graphic.{IsGraphic, AreGraphic, Lacks, graphic_from, graphic-decimal}
use Rattle.ring_text.proofs.Graphic.{graphic-label}
use Rattle.ring_text.proofs.Devices.{graphic-device}

abbrev pub Words : Type 0
Words = List (List ℕ)

abbrev pub joined : Words → List ℕ
joined words = join_with_byte 32 words

-- a byte of a line is no line feed, and is ASCII
abbrev IsPrinted : ℕ → Type 0
IsPrinted b = (32 ≤ b) × (b < 128)

-- ---- the words of valid snapshots

known_below : (id n : ℕ) (devices : List Device) → All (λ device. device.id < n) devices →
    has_device id devices ≡ true → id < n
known_below id n [] below known = absurd (true≢false (sym known))
known_below id n (d ∷ ds) below known =
    let low : Device → Type 0 = λ device. device.id < n in
    let first : d.id < n = All-head low d ds below in
    ⊎_elim (λ same. omega (arith, eqb-true d.id id same)) (λ more. known_below id n ds
    (All-tail low d ds below) more) (or_cases _ _ known)

pub seats_below : (s : SnapshotRecord) → IsValidSnapshot s → All (λ n. n < 2 ^ 16) s.seats
seats_below s v = All-weaker (λ (id : ℕ). has_device id s.devices ≡ true) (λ (id : ℕ). id < 2 ^ 16)
    (λ id known. known_below id (2 ^ 16) s.devices v.devices.below known) s.seats v.seats.known

abbrev pub AreWords : Words → Type 0
AreWords words = All AreGraphic words

head_words : (s : SnapshotRecord) → IsValidSnapshot s → All AreWords (head_lines s)
unfolding head_lines
head_words s v =
    let version : s.version < 2 ^ 64 = omega (arith, v.version) in
    let power : s.power < 2 ^ 64 = omega (arith, v.power.1) in
    let replicas : s.replicas < 2 ^ 64 = omega (arith, v.replicas.1) in
    let devices : length s.devices < 2 ^ 64 = omega (arith, v.devices.count) in
    All-from_recursion AreWords (head_lines s) (
      two (codes "swift-ring-text") (codes "1") (graphic_from (codes "swift-ring-text") refl)
          (graphic_from (codes "1") refl),
      (
        two (codes "ring") s.name (graphic_from (codes "ring") refl) (graphic-label s.name v.name),
        (
          two (codes "version") (decimal s.version) (graphic_from (codes "version") refl)
              (graphic-decimal s.version version),
          (
            two (codes "power") (decimal s.power) (graphic_from (codes "power") refl)
                (graphic-decimal s.power power),
            (
              two (codes "replicas") (decimal s.replicas) (graphic_from (codes "replicas") refl)
                  (graphic-decimal s.replicas replicas),
              (
                two (codes "devices") (decimal (length s.devices)) (graphic_from (codes "devices")
                    refl) (graphic-decimal (length s.devices) devices),
                tt,
              ),
            ),
          ),
        ),
      ),
    )
  where
    two : (a b : List ℕ) → AreGraphic a → AreGraphic b → AreWords (a ∷ b ∷ [])
    two a b g h = All-cons AreGraphic a (b ∷ []) g (All-cons AreGraphic b [] h (All-nil AreGraphic))

one_word : (a : List ℕ) → AreGraphic a → All AreWords ((a ∷ []) ∷ [])
one_word a g = All-cons AreWords (a ∷ []) [] (All-cons AreGraphic a [] g (All-nil AreGraphic))
    (All-nil AreWords)

device_words : (s : SnapshotRecord) → IsValidSnapshot s → All AreWords (map device_line s.devices)
device_words s v = All-map AreWords device_line s.devices (λ k d lt. graphic-device _
    (v.devices.below k d lt) (v.devices.proper k d lt))

partition_words : (s : SnapshotRecord) → IsValidSnapshot s →
    All AreWords (partition_lines (2 ^ s.power) s.replicas s.seats)
partition_words s v = All-map AreWords (partition_line s.replicas s.seats)
    (range_with_len 0 (2 ^ s.power)) (λ k d lt. row (get_or (range_with_len 0 (2 ^ s.power)) k d))
  where
    small : ℕ → Type 0
    small n = n < 2 ^ 16

    row : (p : ℕ) → AreWords (partition_line s.replicas s.seats p)
    row p =
        let width : ℕ = p * s.replicas + s.replicas - p * s.replicas in
        All-map AreGraphic decimal (slice_range s.seats (p * s.replicas)
        (p * s.replicas + s.replicas)) (All-weaker (λ (n : ℕ). n < 2 ^ 16)
        (λ (n : ℕ). AreGraphic (decimal n)) (λ n lt. graphic-decimal n (omega arith)) _
        (All-take (λ (n : ℕ). n < 2 ^ 16) width (drop (p * s.replicas) s.seats)
        (All-drop (λ (n : ℕ). n < 2 ^ 16) (p * s.replicas) s.seats (seats_below s v))))

pub all_words : (s : SnapshotRecord) → IsValidSnapshot s → All AreWords (lines_of s)
all_words s v =
    All-append AreWords _ _ (All-append AreWords _ _ (All-append AreWords _ _
    (All-append AreWords _ _ (head_words s v) (device_words s v)) (one_word (codes "seats")
    (graphic_from (codes "seats") refl)))
    (partition_words s v)) (one_word (codes "end") (graphic_from (codes "end") refl))

-- ---- lines and their text

printed : (words : Words) → AreWords words → All IsPrinted (joined words)
printed [] h = All-nil IsPrinted
printed (w ∷ []) h = All-weaker IsGraphic IsPrinted (λ b g. (omega (arith, g.0), g.1)) w
    (All-head AreGraphic w [] h)
printed (w ∷ v ∷ words) h =
    All-append IsPrinted w (32 ∷ joined (v ∷ words)) (All-weaker IsGraphic IsPrinted
    (λ b g. (omega (arith, g.0), g.1)) w (All-head AreGraphic w (v ∷ words) h))
    (All-cons IsPrinted 32 (joined (v ∷ words)) (lit≤ tt, lit< tt)
    (printed (v ∷ words) (All-tail AreGraphic w (v ∷ words) h)))

pub no_feed : (words : Words) → AreWords words → Lacks 10 (joined words)
no_feed words h = All-weaker IsPrinted (λ b. (b == 10) ≡ false)
    (λ b p. ne_eqb b 10 (λ e. omega (arith, e, p.0))) (joined words) (printed words h)

-- a text is cut into its lines, and into the lines of what follows
pub split-lines : (lines : List Words) (more : List ℕ) → All AreWords lines →
    slice_split (λ b. b == 10) (flat_map line lines ++ more) ≡ map joined lines ++
    slice_split (λ b. b == 10) more
split-lines [] more h = refl
split-lines (l ∷ ls) more h =
    let regrouped : flat_map line (l ∷ ls) ++ more ≡ joined l ++ 10 ∷ (flat_map line ls ++ more) =
    append_assoc (joined l ++ 10 ∷ []) (flat_map line ls) more ∙ append_assoc (joined l) (10 ∷
    []) (flat_map line ls ++ more) in
    ap (slice_split (λ b. b == 10)) regrouped
    ∙ slice_split_at (λ b. b == 10) (joined l) 10 (flat_map line ls ++
    more) (no_feed l (All-head AreWords l ls h)) refl
    ∙ ap (λ (x : Words). joined l ∷ x) (split-lines ls more (All-tail AreWords l ls h))

-- lines that are joined, with nothing behind the last line feed, are a text
join-lines : (lines : List Words) → join_with_byte 10 (map joined lines ++ [] ∷ []) ≡ flat_map line
    lines
join-lines [] = refl
join-lines (l ∷ []) = sym (append-nil (joined l ++ 10 ∷ []))
join-lines (l ∷ m ∷ ls) = ap (λ (x : List ℕ). joined l ++ 10 ∷ x) (join-lines (m ∷ ls)) ∙ sym
    (append_assoc (joined l) (10 ∷ []) (flat_map line (m ∷ ls)))

pub text_of_lines : (bytes : List ℕ) (texts : Words) (s : SnapshotRecord) →
    texts ≡ slice_split (λ b. b == 10) bytes → AreRingLines texts s → Spells bytes s
text_of_lines bytes texts s e are = record {
  valid = are.valid;
  text = sym (join_with_byte-slice_split 10 bytes) ∙ ap (join_with_byte 10) (sym e ∙ are.are) ∙
      join-lines (lines_of s);
}

pub lines_of_text : (bytes : List ℕ) (texts : Words) (s : SnapshotRecord) →
    texts ≡ slice_split (λ b. b == 10) bytes → Spells bytes s → AreRingLines texts s
lines_of_text bytes texts s e spells = record {
  valid = spells.valid;
  are = e ∙ ap (slice_split (λ b. b == 10)) (spells.text ∙ sym (append-nil (spelling s))) ∙
      split-lines (lines_of s) [] (all_words s spells.valid);
}

-- ---- a text is ASCII

ascii_lines : (lines : List Words) → All AreWords lines → All (λ b. b < 128) (flat_map line lines)
ascii_lines [] h = All-nil (λ b. b < 128)
ascii_lines (l ∷ ls) h =
    let low : ℕ → Type 0 = λ b. b < 128 in
    All-append low (joined l ++ 10 ∷ []) (flat_map line ls)
    (All-append low (joined l) (10 ∷ []) (All-weaker IsPrinted low (λ b p. p.1) (joined l)
    (printed l (All-head AreWords l ls h))) (All-cons low 10 [] (lit< tt) (All-nil low)))
    (ascii_lines ls (All-tail AreWords l ls h))

pub text_is_ascii : (bytes : List ℕ) (s : SnapshotRecord) → Spells bytes s →
    All (λ b. b < 128) bytes
text_is_ascii bytes s spells = rw spells.text (ascii_lines (lines_of s) (all_words s spells.valid))

pub text_is_utf8 : (bytes : List ℕ) (s : SnapshotRecord) → Spells bytes s → IsUtf8 bytes
text_is_utf8 bytes s spells = IsUtf8-from_ascii bytes (IsAscii-from_all bytes
    (text_is_ascii bytes s spells))
