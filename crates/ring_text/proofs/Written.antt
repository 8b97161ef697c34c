-- Lines that are written one after another.
use Rattle.std.proofs.Common.{◌≡◌, ℕ, ◌<◌, List, [], ◌∷◌, ◌++◌, length, take, drop, get_or, map}
use Rattle.std.proofs.Common.{decimal, sym, ap, ◌∙◌, append_assoc, append-nil, arith}
use Rattle.std.specs.List.{flat_map, join_with_byte}
use Rattle.std.proofs.lemmas.List.Concat.{flat_map-append}
use Rattle.std.specs.Prelude.{codes, ◌^◌}
use Rattle.ring_text.specs.Snapshot.{SnapshotRecord}
use Rattle.ring_text.specs.Spelling.{line, head_lines, device_line, partition_lines, spelling}

abbrev Words : Type 0
Words = List (List ℕ)

-- six lines
pub six_lines : (t0 t1 t2 t3 t4 t5 t6 : List ℕ) (a b c d e f : Words) → t1 ≡ t0 ++ line a →
    t2 ≡ t1 ++ line b → t3 ≡ t2 ++ line c → t4 ≡ t3 ++ line d → t5 ≡ t4 ++ line e → t6 ≡ t5 ++
    line f
    → t6 ≡ t0 ++ flat_map line (a ∷ b ∷ c ∷ d ∷ e ∷ f ∷ [])
six_lines t0 t1 t2 t3 t4 t5 t6 a b c d e f h1 h2 h3 h4 h5 h6 = rw (
  h6,
  h5,
  h4,
  h3,
  h2,
  h1,
) (regroup t0 (line a) (line b) (line c) (line d) (line e) (line f))
  where
    regroup : (t a b c d e f : List ℕ) → (((((t ++ a) ++ b) ++ c) ++ d) ++ e) ++ f ≡ t ++
        (a ++ (b ++ (c ++ (d ++ (e ++ (f ++ []))))))
    regroup t a b c d e f = simp (append_assoc, append-nil)

-- the five parts of a text
pub five_parts : (t1 t2 t3 t4 t5 : List ℕ) (a b c d e : List Words) → t1 ≡ flat_map line a →
    t2 ≡ t1 ++ flat_map line b → t3 ≡ t2 ++ flat_map line c → t4 ≡ t3 ++ flat_map line d →
    t5 ≡ t4 ++ flat_map line e
    → t5 ≡ flat_map line (a ++ b ++ c ++ d ++ e)
five_parts t1 t2 t3 t4 t5 a b c d e h1 h2 h3 h4 h5 =
    rw (h5, h4, h3, h2, h1) (sym (flat_map-append line (a ++ b ++ c ++ d) e ∙ ap
    (λ (x : List ℕ). x ++ flat_map line e)
    (flat_map-append line (a ++ b ++ c) d ∙ ap (λ (x : List ℕ). x ++ flat_map line d)
    (flat_map-append line (a ++ b) c ∙ ap (λ (x : List ℕ). x ++ flat_map line c)
    (flat_map-append line a b)))))

-- what follows the first of some words
after_first_word : (word : List ℕ) (ids : List ℕ) → join_with_byte 32 (word ∷ map decimal ids) ≡
    word ++ flat_map (λ id. 32 ∷ decimal id) ids
after_first_word word [] = sym (append-nil word)
after_first_word word (id ∷ ids) = ap (λ (x : List ℕ). word ++ 32 ∷
    x) (after_first_word (decimal id) ids)

-- the line of numbers, one after another
pub line_of_numbers : (ids : List ℕ) → 0 < length ids →
    line (map decimal ids) ≡ (decimal (get_or ids 0 0) ++ flat_map (λ id. 32 ∷ decimal id)
    (drop 1 ids)) ++ 10 ∷ []
line_of_numbers [] some = absurd (omega arith)
line_of_numbers (id ∷ ids) some = ap (λ (x : List ℕ). x ++ 10 ∷ []) (after_first_word (decimal id)
    ids)

-- the first lines, one after another
pub head_written : (t0 t1 t2 t3 t4 t5 t6 : List ℕ) (s : SnapshotRecord) → t1 ≡ t0 ++
    line (codes "swift-ring-text" ∷ codes "1" ∷ []) → t2 ≡ t1 ++ line (codes "ring" ∷ s.name ∷ []) →
    t3 ≡ t2 ++ line (codes "version" ∷ decimal s.version ∷ [])
    → t4 ≡ t3 ++ line (codes "power" ∷ decimal s.power ∷ []) → t5 ≡ t4 ++ line (codes "replicas" ∷
    decimal s.replicas ∷ []) → t6 ≡ t5 ++ line (codes "devices" ∷ decimal (length s.devices) ∷
    [])
    → t6 ≡ t0 ++ flat_map line (head_lines s)
unfolding head_lines
head_written t0 t1 t2 t3 t4 t5 t6 s = six_lines t0 t1 t2 t3 t4 t5 t6 (codes "swift-ring-text" ∷
    codes "1" ∷ []) (codes "ring" ∷ s.name ∷ []) (codes "version" ∷ decimal s.version ∷
    []) (codes "power" ∷ decimal s.power ∷ [])
    (codes "replicas" ∷ decimal s.replicas ∷ []) (codes "devices" ∷ decimal (length s.devices) ∷ [])

-- a text of these five parts
pub text_written : (t1 t2 t3 t4 t5 : List ℕ) (s : SnapshotRecord) →
    t1 ≡ flat_map line (head_lines s) → t2 ≡ t1 ++ flat_map line (map device_line s.devices) →
    t3 ≡ t2 ++ codes "seats\n"
    → t4 ≡ t3 ++ flat_map line (partition_lines (2 ^ s.power) s.replicas s.seats) → t5 ≡ t4 ++
    codes "end\n" → t5 ≡ spelling s
text_written t1 t2 t3 t4 t5 s = five_parts t1 t2 t3 t4 t5 (head_lines s) (map device_line s.devices)
    ((codes "seats" ∷ []) ∷ []) (partition_lines (2 ^ s.power) s.replicas s.seats)
    ((codes "end" ∷ []) ∷ [])

-- numbers that are written with a space before each but the first
pub numbers_written : (t0 t1 t2 t3 : List ℕ) (ids : List ℕ) → 0 < length ids → t1 ≡ t0 ++
    decimal (get_or (take 1 ids) 0 0) → t2 ≡ t1 ++ flat_map (λ id. 32 ∷ decimal id) (drop 1 ids) →
    t3 ≡ t2 ++ 10 ∷ [] → t3 ≡ t0 ++ line (map decimal ids)
numbers_written t0 t1 t2 t3 [] some h1 h2 h3 = absurd (omega arith)
numbers_written t0 t1 t2 t3 (id ∷ ids) some h1 h2 h3 =
    let others = flat_map (λ i. 32 ∷ decimal i) ids in
    rw (line_of_numbers (id ∷ ids) some, h3, h2, h1) (ap (λ (x : List ℕ). x ++ 10 ∷
    []) (append_assoc t0 (decimal id) others) ∙ append_assoc t0 (decimal id ++ others) (10 ∷
    []))
