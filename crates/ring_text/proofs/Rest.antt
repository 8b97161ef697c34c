-- What follows the first lines: those of the devices and those of the partitions.
use Rattle.std.proofs.Common.{◌≡◌, ℕ, ◌^◌, ◌<◌, List, Err, [], ◌∷◌, ◌++◌, length, drop}
use Rattle.std.proofs.Common.{take, refl, sym, ap, ◌∙◌, arith}
use Rattle.std.specs.Prelude.{codes, ◌==◌}
use Rattle.std.specs.List.{join_with_byte, slice_split}
use Rattle.std.proofs.lemmas.List.{drop_at, length-append, take_at}
use Rattle.std.proofs.lemmas.List.Splits.{join_with_byte-slice_split}
use Rattle.ring_words.specs.Inner.ReadsAs.{ReadsAs}
use Rattle.ring_words.specs.declared.device.Device.{Device}
use Rattle.ring_words.specs.declared.spelling.SpellingFault.{SpellingFault}
use Rattle.ring_words.specs.declared.spelling.SpellingFault.TheVariants.{Bad, NoMemory}
use Rattle.ring_words.specs.Spelling.{Reads}
use Rattle.ring_text.specs.Snapshot.{SnapshotRecord}
use Rattle.ring_text.specs.Inner.Reading.{AreDeviceLines, AreRingLines, HasLines, HasPartitions}
use Rattle.ring_text.specs.Inner.Reading.{FollowHead, IsHead}
use Rattle.ring_text.specs.Inner.Stopping.{last_texts, seat_texts, texts_of_devices}
use Rattle.ring_text.specs.Inner.Stopping.{texts_of_partitions}
use Rattle.ring_text.specs.declared.head.Head.{Head}
use Rattle.ring_text.proofs.Rows.{joined_lines}
use Rattle.ring_text.proofs.Whole.{cut_within, parts_are}

abbrev Texts : Type 0
Texts = List (List ℕ)

abbrev lines_of : List ℕ → Texts
lines_of text = slice_split (λ b. b == 10) text

-- where a part is bad, there is no whole
pub none_whole : {X Y : Type 0} (g : X → Y) (Q : Y → Type 0) (e : SpellingFault) →
    (e ≡ Bad → (y : Y) → Q y → ⊥) → ReadsAs g Q (Err e)
none_whole g Q Bad none = none refl
none_whole g Q NoMemory none = tt

-- ---- lines are cut in one way

front_is : (count : ℕ) (text rest : List ℕ) (lines a b : Texts) → HasLines count text lines rest →
    lines_of text ≡ a ++ b → length a ≡ count → (lines ≡ a) × (lines_of rest ≡ b)
front_is count text rest lines a b has e size =
    let same : lines ++ lines_of rest ≡ a ++ b = sym has.lines ∙ e in (
      sym (take_at lines (lines_of rest) count has.size) ∙ ap (take count) same ∙ take_at a b count
          size,
      sym (drop_at lines (lines_of rest) count has.size) ∙ ap (drop count) same ∙ drop_at a b count
          size,
    )

abbrev last_lines : Texts
last_lines = codes "end" ∷ [] ∷ []

-- before the lines of partitions there is the word for seats
pub seats_follow : (head : Head) (text rest : List ℕ) (lines : Texts) (ds : List Device)
    (seats : List ℕ) → HasLines head.devices text lines rest → FollowHead head (lines_of text) ds seats
    → (more : List ℕ) × (rest ≡ codes "seats\n" ++ more)
seats_follow head text rest lines ds seats has is =
    let tail : Texts = is.parts.1 ++ last_lines in
    let here = (front_is head.devices text rest lines is.parts.0 (codes "seats" ∷ tail) has
    is.cut.is is.cut.devices).1 in (
      join_with_byte 10 tail,
      sym (join_with_byte-slice_split 10 rest) ∙ ap (join_with_byte 10) here ∙ joined_lines
          (codes "seats") tail (omega (arith, length-append is.parts.1 last_lines)),
    )

-- The lines that were cut off are those of the devices, and the others are those of the partitions
-- and the last.
pub record AreTheParts (more : List ℕ) (lines first second : Texts) : Type 0 where
  pub devices : lines ≡ first
  pub others : lines_of more ≡ second ++ last_lines

pub parts_found : (head : Head) (text rest more : List ℕ) (lines : Texts) (ds : List Device)
    (seats : List ℕ) → HasLines head.devices text lines rest → rest ≡ codes "seats\n" ++ more →
    (is : FollowHead head (lines_of text) ds seats) → AreTheParts more lines is.parts.0 is.parts.1
parts_found head text rest more lines ds seats has e is =
    let cut = front_is head.devices text rest lines is.parts.0 (codes "seats" ∷
    (is.parts.1 ++ last_lines)) has is.cut.is is.cut.devices in
    record { devices = cut.0; others = ap (drop 1) (sym (ap lines_of e) ∙ cut.1) }

-- behind the lines of the partitions there is the last one
pub end_follows : (partitions replicas : ℕ) (more last : List ℕ) (seats : List ℕ) (second : Texts) →
    HasPartitions partitions replicas more seats last → lines_of more ≡ second ++ last_lines →
    length second ≡ partitions → last ≡ codes "end\n"
end_follows partitions replicas more last seats second has e size =
    let same : has.texts ++ lines_of last ≡ second ++ last_lines = sym has.lines ∙ e in
    let end : lines_of last ≡ last_lines = sym (drop_at has.texts (lines_of last) partitions
    has.count) ∙ ap (drop partitions) same ∙ drop_at second last_lines partitions size in
    sym (join_with_byte-slice_split 10 last) ∙ ap (join_with_byte 10) end

pub rest_is : (head : Head) (text rest more last : List ℕ) (lines : Texts) (ds : List Device)
    (seats : List ℕ) → HasLines head.devices text lines rest → rest ≡ codes "seats\n" ++ more →
    HasPartitions (2 ^ head.power) head.replicas more seats last → last ≡ codes "end\n" →
    AreDeviceLines lines ds → FollowHead head (lines_of text) ds seats
rest_is head text rest more last lines ds seats has e partitions end devices = record {
  parts = (lines, partitions.texts);
  cut = record {
    is = has.lines ∙ ap (λ (x : Texts). lines ++ x) (ap lines_of e ∙ ap
        (λ (x : Texts). codes "seats" ∷ x) (partitions.lines ∙ ap
        (λ (t : List ℕ). partitions.texts ++ lines_of t) end));
    devices = has.size;
    partitions = partitions.count;
  };
  first = devices;
  second = partitions.are;
}

-- ---- the first lines and the rest

-- where a part is bad, there is no snapshot
pub none_read : {Y : Type 0} (Q : Y → Type 0) (e : SpellingFault) →
    (e ≡ Bad → (y : Y) → Q y → ⊥) → Reads Q (Err e)
none_read Q Bad none = none refl
none_read Q NoMemory none = tt

pub first_six : (text rest : List ℕ) (lines : Texts) → HasLines 6 text lines rest →
    take 6 (lines_of text) ≡ lines
first_six text rest lines has = ap (take 6) has.lines ∙ take_at lines (lines_of rest) 6 has.size

pub behind_six : (text rest : List ℕ) (lines : Texts) → HasLines 6 text lines rest →
    drop 6 (lines_of text) ≡ lines_of rest
behind_six text rest lines has = ap (drop 6) has.lines ∙ drop_at lines (lines_of rest) 6 has.size

pub more_than_six : (s : SnapshotRecord) → 0 < length (last_texts s)
more_than_six s = omega (arith, length-append (texts_of_devices s) (seat_texts s))

pub rest_within : (texts : Texts) (head : Head) (s : SnapshotRecord) → IsHead (take 6 texts) head →
    AreRingLines texts s → FollowHead head (drop 6 texts) s.devices s.seats
rest_within texts head s tells are =
    let pair : Texts × Texts = (texts_of_devices s, texts_of_partitions s) in
    let cut = cut_within texts head s tells are in
    let parts = parts_are texts head pair s tells cut are in
    record { parts = pair; cut = cut; first = parts.devices; second = parts.seats }
