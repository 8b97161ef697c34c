-- Bytes spell one snapshot, and no spelling begins another.
use Rattle.std.proofs.Common.{◌≡◌, ℕ, ◌+◌, ◌^◌, List, [], ◌∷◌, ◌++◌, length, take, drop, map, refl}
use Rattle.std.proofs.Common.{sym, ap, ◌∙◌, append_assoc, arith}
use Rattle.std.specs.Prelude.{◌==◌, codes}
use Rattle.std.specs.List.{join_with_byte, slice_split}
use Rattle.std.proofs.lemmas.List.{length-append, length-map, map-append, drop_at, take_at}
use Rattle.std.proofs.lemmas.List.FromFn.{length-range_with_len}
use Rattle.std.proofs.lemmas.List.Splits.{join_with_byte-slice_split}
use Rattle.ring_text.specs.Snapshot.{SnapshotRecord, IsValidSnapshot}
use Rattle.ring_text.specs.Spelling.{head_lines, device_line, partition_lines, lines_of, Spells}
use Rattle.ring_text.specs.Inner.Reading.{AreRingLines}
use Rattle.ring_text.specs.declared.head.Head.{Head}
use Rattle.ring_text.proofs.Text.{lines_of_text, split-lines, all_words}
use Rattle.ring_text.proofs.Whole.{head_of, first_texts, length-first_texts, head_is, one_head}
use Rattle.ring_text.proofs.Whole.{texts_of_devices, texts_of_partitions, head_within, cut_within}
use Rattle.ring_text.proofs.Whole.{parts_are, lines_of_made}

abbrev Texts : Type 0
Texts = List (List ℕ)

abbrev joined : Texts → List ℕ
joined words = join_with_byte 32 words

abbrev cut_at_feeds : List ℕ → Texts
cut_at_feeds bytes = slice_split (λ b. b == 10) bytes

pub one_snapshot : (ts : Texts) (s t : SnapshotRecord) → AreRingLines ts s → AreRingLines ts t →
    s ≡ t
one_snapshot ts s t a b =
    let g : Head = head_of s in
    let tells = head_within ts s a in
    let cut = cut_within ts g s tells a in
    let x : Texts × Texts = (texts_of_devices s, texts_of_partitions s) in
    let mine = parts_are ts g x s tells cut a in
    sym (lines_of_made ts g x s.devices s.seats t tells cut mine.devices mine.seats b).is

-- ---- no spelling begins another

length-head_lines : (s : SnapshotRecord) → length (head_lines s) ≡ 6
unfolding head_lines
length-head_lines s = refl

length-lines_of : (s : SnapshotRecord) → length (lines_of s) ≡ 6 + length s.devices + 1 + 2 ^
    s.power + 1
length-lines_of s = simp (length-append, length-map, length-range_with_len, length-head_lines)
    (omega arith)

front_lines : (h d a r e : List Texts) (more : Texts) → map joined (h ++ d ++ a ++ r ++ e) ++
    more ≡ map joined h ++ (map joined (d ++ (a ++ (r ++ e))) ++ more)
front_lines h d a r e more = simp (map-append, append_assoc)

-- lines that begin with those of a snapshot, which are those of another
same_count : (ts more : Texts) (s t : SnapshotRecord) → IsValidSnapshot s →
    ts ≡ map joined (lines_of s) ++ more → AreRingLines ts t →
    length (lines_of s) ≡ length (lines_of t)
same_count ts more s t v e are =
    let whole = e ∙ front_lines (head_lines s) (map device_line s.devices) ((codes "seats" ∷ []) ∷
    []) (partition_lines (2 ^ s.power) s.replicas s.seats) ((codes "end" ∷ []) ∷ []) more in
    let front : take 6 ts ≡ first_texts s = ap (take 6) whole ∙ take_at (first_texts s) _ 6
    (length-first_texts s) in
    let same : head_of s ≡ head_of t = one_head (take 6 ts) (head_of s) (head_of t)
    (rw front (head_is s v)) (head_within ts t are) in
    let devices : length s.devices ≡ length t.devices = ap (λ (h : Head). h.devices) same in
    let partitions : 2 ^ s.power ≡ 2 ^ t.power = ap (λ (h : Head). 2 ^ h.power) same in
    omega (arith, length-lines_of s, length-lines_of t)

pub no_more : (a more : List ℕ) (s t : SnapshotRecord) → Spells a s → Spells (a ++ more) t →
    more ≡ []
no_more a more s t mine other =
    let ts : Texts = cut_at_feeds (a ++ more) in
    let are : AreRingLines ts t = lines_of_text (a ++ more) ts t refl other in
    let begun : ts ≡ map joined (lines_of s) ++ cut_at_feeds more =
    ap (λ (x : List ℕ). cut_at_feeds (x ++ more)) mine.text ∙ split-lines (lines_of s) more
    (all_words s mine.valid) in
    let count = same_count ts (cut_at_feeds more) s t mine.valid begun are in
    let n : ℕ = length (lines_of s) in
    let first : length (map joined (lines_of s)) ≡ n = simp length-map in
    let second : length (map joined (lines_of t)) ≡ n = simp length-map (sym count) in
    let rest : cut_at_feeds more ≡ [] ∷ [] =
    sym (drop_at (map joined (lines_of s)) (cut_at_feeds more) n first) ∙ ap (drop n)
    (sym begun ∙ are.are) ∙ drop_at (map joined (lines_of t)) ([] ∷ []) n second in
    sym (join_with_byte-slice_split 10 more) ∙ ap (join_with_byte 10) rest
