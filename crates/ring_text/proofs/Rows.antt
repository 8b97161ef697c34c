-- The lines of partitions, one number after another.
use Rattle.std.proofs.Common.{lit<, ◌≡◌, ℕ, ◌+◌, ◌-◌, ◌^◌, ◌<◌, ◌≤◌, List, [], ◌∷◌}
use Rattle.std.proofs.Common.{◌++◌, length, drop, map, decimal, refl, sym, ap, ◌∙◌, arith}
use Rattle.std.proofs.Common.{append_assoc, append-nil}
use Rattle.ring_words.specs.Limits.{greatest_short, short_count}
use Rattle.std.specs.Prelude.{All, ◌==◌}
use Rattle.std.specs.List.{flat_map, join_with_byte, slice_split}
use Rattle.std.proofs.lemmas.List.{drop_at, drop_more, drop-append-le, flat_map_more, length-append}
use Rattle.std.proofs.lemmas.List.Elements.{All-nil, All-head, All-tail, All-push}
use Rattle.std.proofs.lemmas.List.Splits.{join_with_byte-slice_split, slice_split_at}
use Rattle.ring_words.proofs.Decimals.{separated_parts}
use Rattle.ring_text.specs.Inner.Reading.{text_at, ArePartitionLines, BeginsWithPartition}
use Rattle.ring_text.specs.Inner.Reading.{HasPartitions, IsNumberAt, IsPartitionAt}
use Rattle.ring_text.proofs.Partitions.{graphic-numbers, partition_within, seats_more}
use Rattle.ring_text.proofs.Text.{no_feed}

abbrev IsSmall : ℕ → Type 0
IsSmall n = n < short_count

abbrev joined : List ℕ → List ℕ
joined row = join_with_byte 32 (map decimal row)

-- numbers, a space behind each
abbrev spaced : List ℕ → List ℕ
spaced row = flat_map (λ n. decimal n ++ 32 ∷ []) row

-- ---- the numbers of a line that were read

-- From a place to another there are the numbers of a line but the last ones, a space behind each,
-- and they stand behind the old seats.
pub record IsRowTo (text : List ℕ) (from place next_replica : ℕ) (old new : List ℕ) : Type 0 where
  pub row : List ℕ
  pub pushed : new ≡ old ++ row
  pub size : length row + 1 ≡ next_replica
  pub limits : All IsSmall row
  pub is : drop from text ≡ spaced row ++ drop place text
  pub within : place ≤ length text

pub row_begun : (text : List ℕ) (from : ℕ) (seats : List ℕ) → from ≤ length text →
    IsRowTo text from from 1 seats seats
row_begun text from seats le = record {
  row = [];
  pushed = sym (append-nil seats);
  size = refl;
  limits = All-nil IsSmall;
  is = refl;
  within = le;
}

pub row_goes_on : (text : List ℕ) (from place replica n next : ℕ) (old new : List ℕ) →
    IsRowTo text from place replica old new → IsNumberAt text place 32 n next →
    IsRowTo text from next (replica + 1) old (new ++ n ∷ [])
row_goes_on text from place replica n next old new read number =
    let row : List ℕ = read.row in
    let tail : List ℕ = drop next text in
    record {
      row = row ++ n ∷ [];
      pushed = rw read.pushed (append_assoc old row (n ∷ []));
      size = omega (arith, length-append row (n ∷ []), read.size);
      limits = All-push IsSmall row n read.limits (omega (arith, number.below));
      is = read.is ∙ ap (λ (x : List ℕ). spaced row ++ x) (number.is ∙ sym
          (append_assoc (decimal n) (32 ∷ []) tail)) ∙ sym (append_assoc (spaced row) (decimal n ++
          32 ∷ []) tail) ∙ ap (λ (x : List ℕ). x ++ tail) (flat_map_more (λ m. decimal m ++ 32 ∷
          []) [] row n);
      within = number.within;
    }

join_last : (row : List ℕ) (n : ℕ) → joined (row ++ n ∷ []) ≡ spaced row ++ decimal n
join_last [] n = refl
join_last (x ∷ []) n = sym (simp (append_assoc, append-nil))
join_last (x ∷ y ∷ row) n = ap (λ (t : List ℕ). decimal x ++ 32 ∷ t) (join_last (y ∷ row) n) ∙ sym
    (append_assoc (decimal x ++ 32 ∷ []) (spaced (y ∷ row)) (decimal n) ∙ append_assoc (decimal x)
    (32 ∷ []) (spaced (y ∷ row) ++ decimal n))

pub row_ends : (replicas : ℕ) (text : List ℕ) (from place n next : ℕ) (old new : List ℕ) →
    IsRowTo text from place replicas old new → IsNumberAt text place 10 n next →
    IsPartitionAt replicas text from next old (new ++ n ∷ [])
row_ends replicas text from place n next old new read number =
    let row : List ℕ = read.row in
    let tail : List ℕ = drop next text in
    record {
      row = row ++ n ∷ [];
      begins = record {
        line = joined (row ++ n ∷ []);
        joined = read.is ∙ ap (λ (x : List ℕ). spaced row ++ x) number.is ∙ sym (append_assoc
            (spaced row) (decimal n) (10 ∷ tail)) ∙ ap (λ (x : List ℕ). x ++ 10 ∷ tail) (sym
            (join_last row n));
        is = record {
          is = refl;
          count = omega (arith, length-append row (n ∷ []), read.size);
          limits = All-push IsSmall row n read.limits (omega (arith, number.below));
        };
      };
      pushed = rw read.pushed (append_assoc old row (n ∷ []));
      within = number.within;
    }

-- ---- the numbers that are left of a line

-- The text goes on with these numbers of a line and so.
record IsLeft (left rest : List ℕ) (count : ℕ) : Type 0 where
  numbers : List ℕ
  is : left ≡ joined numbers ++ 10 ∷ rest
  size : length numbers ≡ count
  limits : All IsSmall numbers

left_of : (row ns left rest : List ℕ) (count : ℕ) → All IsSmall row → All IsSmall ns →
    length row < length ns → count + length row ≡ length ns → spaced row ++ left ≡ joined ns ++
    10 ∷ rest → IsLeft left rest count
left_of [] ns left rest count small all lt e is = record {
  numbers = ns;
  is = is;
  size = omega (arith, e);
  limits = all;
}
left_of (x ∷ row) [] left rest count small all lt e is = absurd (omega (arith, lt))
left_of (x ∷ row) (y ∷ []) left rest count small all lt e is = absurd (omega (arith, lt))
left_of (x ∷ row) (y ∷ z ∷ ns) left rest count small all lt e is =
    let first : x < short_count = All-head IsSmall x row small in
    let other : y < short_count = All-head IsSmall y (z ∷ ns) all in
    let low : x < 2 ^ 32 = omega arith in
    let also : y < 2 ^ 32 = omega arith in
    let text : List ℕ = spaced (x ∷ row) ++ left in
    let one : text ≡ decimal x ++ 32 ∷ (spaced row ++ left) = append_assoc (decimal x ++ 32 ∷ [])
    (spaced row) left ∙ append_assoc (decimal x) (32 ∷ []) (spaced row ++ left) in
    let two : text ≡ decimal y ++ 32 ∷ (joined (z ∷ ns) ++ 10 ∷ rest) = is ∙ append_assoc
    (decimal y) (32 ∷ joined (z ∷ ns)) (10 ∷ rest) in
    let parts = separated_parts 32 text x y (spaced row ++ left) (joined (z ∷ ns) ++ 10 ∷ rest)
    (lit< tt) low also one two in
    left_of row (z ∷ ns) left rest count (All-tail IsSmall x row small) (All-tail IsSmall y (z ∷
    ns) all) (omega (arith, lt)) (omega (arith, e)) parts.1

left_in : (replicas : ℕ) (text : List ℕ) (from place replica : ℕ) (old new ns rest : List ℕ) →
    IsRowTo text from place replica old new → replica ≤ replicas →
    BeginsWithPartition replicas (drop from text) ns rest →
    IsLeft (drop place text) rest (replicas + 1 - replica)
left_in replicas text from place replica old new ns rest read le begins =
    left_of read.row ns (drop place text) rest (replicas + 1 - replica) read.limits begins.is.limits
    (omega (arith, read.size, begins.is.count)) (omega (arith, read.size, begins.is.count)) (sym
    read.is ∙ begins.joined ∙ ap (λ (x : List ℕ). x ++ 10 ∷ rest) begins.is.is)

-- The text goes on with a number and a separator.
abbrev pub GoesOn : List ℕ → ℕ → Type 0
GoesOn left separator = (n : ℕ) × (rest : List ℕ) × (n ≤ greatest_short) × (left ≡ decimal n ++
    separator ∷ rest)

several : (left rest ns : List ℕ) → left ≡ joined ns ++ 10 ∷ rest → All IsSmall ns → 1 < length ns →
    GoesOn left 32
several left rest [] is small lt = absurd (omega (arith, lt))
several left rest (n ∷ []) is small lt = absurd (omega (arith, lt))
several left rest (n ∷ m ∷ ns) is small lt = let low : n < short_count = All-head IsSmall n (m ∷
    ns) small in (
      n,
      joined (m ∷ ns) ++ 10 ∷ rest,
      omega arith,
      is ∙ append_assoc (decimal n) (32 ∷ joined (m ∷ ns)) (10 ∷ rest),
    )

one : (left rest ns : List ℕ) → left ≡ joined ns ++ 10 ∷ rest → All IsSmall ns → length ns ≡ 1 →
    GoesOn left 10
one left rest [] is small e = absurd (omega (arith, e))
one left rest (n ∷ []) is small e = let low : n < short_count = All-head IsSmall n [] small in (
  n,
  rest,
  omega arith,
  is,
)
one left rest (n ∷ m ∷ ns) is small e = absurd (omega (arith, e))

-- before the last number of a line another one follows
pub more_follow : (replicas : ℕ) (text : List ℕ) (from place replica : ℕ)
    (old new ns rest : List ℕ) → IsRowTo text from place replica old new → replica < replicas →
    BeginsWithPartition replicas (drop from text) ns rest → GoesOn (drop place text) 32
more_follow replicas text from place replica old new ns rest read lt begins =
    let left = left_in replicas text from place replica old new ns rest read (omega arith) begins in
    several (drop place text) rest left.numbers left.is left.limits (omega (arith, left.size))

-- the last number of a line is followed by its line feed
pub one_follows : (replicas : ℕ) (text : List ℕ) (from place : ℕ) (old new ns rest : List ℕ) →
    IsRowTo text from place replicas old new → BeginsWithPartition replicas (drop from text) ns rest
    → GoesOn (drop place text) 10
one_follows replicas text from place old new ns rest read begins =
    let left = left_in replicas text from place replicas old new ns rest read (omega arith) begins
    in
    one (drop place text) rest left.numbers left.is left.limits (omega (arith, left.size))

-- ---- the lines that were read

abbrev Texts : Type 0
Texts = List (List ℕ)

abbrev lines_of : List ℕ → Texts
lines_of text = slice_split (λ b. b == 10) text

first_line : (replicas : ℕ) (text row rest : List ℕ) → (begins : BeginsWithPartition replicas text
    row rest) → lines_of text ≡ begins.line ∷ lines_of rest
first_line replicas text row rest begins =
    let words : Texts = map decimal row in
    ap lines_of (begins.joined ∙ ap (λ (x : List ℕ). x ++ 10 ∷ rest) begins.is.is)
    ∙ slice_split_at (λ b. b == 10) (join_with_byte 32 words) 10 rest (no_feed words
    (graphic-numbers row begins.is.limits)) refl
    ∙ ap (λ (x : List ℕ). x ∷ lines_of rest) (sym begins.is.is)

pub none_has : (replicas : ℕ) (text : List ℕ) → HasPartitions 0 replicas text [] text
none_has replicas text = record {
  texts = [];
  lines = refl;
  count = refl;
  are = record { are = refl; count = omega arith; limits = All-nil IsSmall };
}

pub more_has : (replicas partitions : ℕ) (text : List ℕ) (place next : ℕ) (old new : List ℕ) →
    HasPartitions partitions replicas text old (drop place text) → IsPartitionAt replicas text place
    next old new → HasPartitions (partitions + 1) replicas text new (drop next text)
more_has replicas partitions text place next old new has at =
    let line : List ℕ = at.begins.line in
    let tail : Texts = lines_of (drop next text) in
    record {
      texts = has.texts ++ line ∷ [];
      lines = has.lines ∙ ap (λ (x : Texts). has.texts ++ x) (first_line replicas (drop place text)
          at.row (drop next text) at.begins) ∙ sym (append_assoc has.texts (line ∷ []) tail);
      count = omega (arith, length-append has.texts (line ∷ []), has.count);
      are = rw at.pushed (seats_more replicas has.texts old line at.row has.are at.begins.is);
    }

pub joined_lines : (line : List ℕ) (lines : Texts) → 0 < length lines →
    join_with_byte 10 (line ∷ lines) ≡ line ++ 10 ∷ join_with_byte 10 lines
joined_lines line [] some = absurd (omega arith)
joined_lines line (next ∷ lines) some = refl

-- where more lines of partitions follow, the text goes on with one
pub one_more : (replicas partitions : ℕ) (text : List ℕ) (place : ℕ) (old : List ℕ)
    (texts more : Texts) (seats : List ℕ) → HasPartitions partitions replicas text old
    (drop place text) → lines_of text ≡ texts ++ more → 0 < length more → partitions < length texts
    → ArePartitionLines replicas texts seats → (row : List ℕ) × (rest : List ℕ) ×
    BeginsWithPartition replicas (drop place text) row rest
one_more replicas partitions text place old texts more seats has e some lt are =
    let line : List ℕ = text_at texts partitions in
    let tail : Texts = drop (partitions + 1) texts ++ more in
    let long : 0 < length tail = omega (arith, length-append (drop (partitions + 1) texts) more) in
    let left : lines_of (drop place text) ≡ line ∷ tail = sym (drop_at has.texts (lines_of
    (drop place text)) partitions has.count) ∙ ap (drop partitions) (sym has.lines ∙ e) ∙
    drop-append-le partitions texts more (omega arith) ∙ ap (λ (x : Texts). x ++ more)
    (drop_more texts partitions [] lt) in (
      _,
      join_with_byte 10 tail,
      record {
        line = line;
        joined = sym (join_with_byte-slice_split 10 (drop place text)) ∙ ap (join_with_byte 10) left
            ∙ joined_lines line tail long;
        is = partition_within replicas texts seats partitions lt are;
      },
    )
