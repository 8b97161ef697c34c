-- Rows of several rings are parted where those of the first ring end.
use Rattle.std.proofs.Common.{◌≡◌, ℕ, Bool, true, false, cond, List, [], ◌∷◌, ◌++◌, map, append-nil}
use Rattle.std.proofs.Common.{zero, suc, ◌<◌, length, get_or, Global, Ordering, Equal, Greater}
use Rattle.std.proofs.Common.{◌≤◌, All, take, drop, string_bytes, subst, arith}
use Rattle.std.proofs.Math.Seq.{drop-nil}
use Rattle.std.proofs.lemmas.List.{drop_all, length-map, length-take-le}
use Rattle.std.proofs.lemmas.List.Elements.{All-from_recursion, recursion_from_All}
use Rattle.std.proofs.lemmas.List.Kept.{AllPairs-cons}
use Rattle.std.specs.Ordering.{is_lt, ordering_reverse}
use Rattle.std.specs.declared.rc.Rc.{Rc}
use Rattle.ring_model.specs.declared.ring.Ring.{Ring}
use Rattle.std.proofs.Common.{Less, ℤ, ◌+◌, Option, None, Some, filter, refl, sym, ap, ◌∙◌}
use Rattle.std.specs.List.{AllByRecursion, enumerate_from, flat_map}
use Rattle.std.proofs.lemmas.Cmp.{tied_itself}
use Rattle.ring_model.specs.Ring.{RingRecord}
use Rattle.ring_model.specs.Rings.{AreByName, is_before, seen, with_ring}
use Rattle.store_model.specs.Contents.{ring_of}
use Rattle.store_model.specs.Entries as rows
use Rattle.store_model.specs.declared.rows.RingRow.{RingRow}
use Rattle.store_model.specs.Entries.{name_cmp}
use Rattle.store_model.proofs.Keys.{name_total}
use Rattle.store_rows.specs.RingRows.{NamedRings, device_entry, part_entries_of, published_entry}
use Rattle.store_rows.specs.RingRows.{ring_entries, ring_entry}
use Rattle.store_rows.specs.Stands.{IsNamedRing}
use Rattle.store_rows.specs.Inner.Found.{StandForRing}
use Rattle.store_rows.specs.declared.naming.RingTables.{RingTables}
use Rattle.store_rows.specs.FirstRows.{moved_entry, seat_entry}
use Rattle.store_rows.specs.Inner.Parted.{ArePartedAt, SayRest, SayTables}
use Rattle.store_rows.proofs.Ordered.{Rising, all-append, rising, weaker}

-- Rings behind the first one have other names.
pub named_otherwise : (e : List ℕ × RingRecord) (rings : NamedRings) → AreByName (e ∷ rings) →
    AllByRecursion (λ (x : List ℕ × RingRecord). x.0 ≡ e.0 → ⊥) rings
named_otherwise e rings by = weaker _ _ (λ x less same. let h : name_cmp e.0 e.0 ≡ Less =
    ap (name_cmp e.0) (sym same) ∙ less in let k = tied_itself name_total e.0 in cc) rings
    (rising (e ∷ rings) by).0

module _ {E : Type 0} (name_of : E → List ℕ) (rows_of : List ℕ × RingRecord → List E)
    (named : (e : List ℕ × RingRecord) → AllByRecursion (λ (x : E). name_of x ≡ e.0) (rows_of e))
  where
    pub others : (name : List ℕ) (rings : NamedRings) →
        AllByRecursion (λ (x : List ℕ × RingRecord). x.0 ≡ name → ⊥) rings →
        AllByRecursion (λ (x : E). name_of x ≡ name → ⊥) (flat_map rows_of rings)
    others name [] all = tt
    others name (e ∷ es) all = all-append (λ (x : E). name_of x ≡ name → ⊥) (rows_of e)
        (flat_map rows_of es)
        (weaker _ _ (λ x is same. all.0 (sym is ∙ same)) (rows_of e) (named e))
        (others name es all.1)

    module _ {R : Type 0} (of : R → E) (name : List ℕ) where
      -- rows in two parts are those in two parts
      one_part : (a b : List E) (front behind : List R) → map of (front ++ behind) ≡ a ++ b →
          ArePartedAt (λ (r : R). name_of (of r)) name front behind →
          AllByRecursion (λ (x : E). name_of x ≡ name) a →
          AllByRecursion (λ (x : E). name_of x ≡ name → ⊥) b → (map of front ≡ a) × (map of behind ≡ b)
      one_part [] b [] behind is parted in_a in_b = (refl, is)
      one_part (x ∷ a) b [] [] is parted in_a in_b = cc
      one_part (x ∷ a) b [] (r ∷ behind) is parted in_a in_b =
          let head : of r ≡ x = cc in
          absurd (parted.behind_other (ap name_of head ∙ in_a.0))
      one_part [] [] (r ∷ front) behind is parted in_a in_b = cc
      one_part [] (x ∷ b) (r ∷ front) behind is parted in_a in_b =
          let head : of r ≡ x = cc in
          absurd (in_b.0 (ap name_of (sym head) ∙ parted.front_named.0))
      one_part (x ∷ a) b (r ∷ front) behind is parted in_a in_b =
          let head : of r ≡ x = cc in
          let tail : map of (front ++ behind) ≡ a ++ b = cc in
          let more = one_part a b front behind tail (record {
            front_named = parted.front_named.1;
            behind_other = parted.behind_other;
          }) in_a.1 in_b in (λ i. head i ∷ more.0 i, more.1)

      -- the rows of the first ring, and those of the others
      pub parts_are : (e : List ℕ × RingRecord) (rings : NamedRings) (rs front behind : List R) →
          AreByName (e ∷ rings) → e.0 ≡ name → map of rs ≡ flat_map rows_of (e ∷ rings) →
          front ++ behind ≡ rs → ArePartedAt (λ (r : R). name_of (of r)) name front behind →
          (map of front ≡ flat_map rows_of (e ∷ [])) × (map of behind ≡ flat_map rows_of rings)
      parts_are e rings rs front behind by is all whole parted =
          let both = one_part (rows_of e) (flat_map rows_of rings) front behind
          (ap (map of) whole ∙ all) parted (weaker _ _ (λ x h. h ∙ is) (rows_of e) (named e))
          (others name rings (weaker _ _ (λ x h same. h (same ∙ sym is)) rings
          (named_otherwise e rings by))) in
          (both.0 ∙ sym (append-nil (rows_of e)), both.1)

      -- the same, of a table that has rows in one schema alone
      pub parts_if : (has : Bool) (e : List ℕ × RingRecord) (rings : NamedRings)
          (rs front behind : List R) → AreByName (e ∷ rings) → e.0 ≡ name →
          map of rs ≡ cond has (flat_map rows_of (e ∷ rings)) [] → front ++ behind ≡ rs →
          ArePartedAt (λ (r : R). name_of (of r)) name front behind →
          (map of front ≡ cond has (flat_map rows_of (e ∷ [])) [])
          × (map of behind ≡ cond has (flat_map rows_of rings) [])
      parts_if true e rings rs front behind by is all whole parted =
          parts_are e rings rs front behind by is all whole parted
      parts_if false e rings rs front behind by is all whole parted =
          one_part [] [] front behind (ap (map of) whole ∙ all) parted tt tt

      pub parts_unless : (has : Bool) (e : List ℕ × RingRecord) (rings : NamedRings)
          (rs front behind : List R) → AreByName (e ∷ rings) → e.0 ≡ name →
          map of rs ≡ cond has [] (flat_map rows_of (e ∷ rings)) → front ++ behind ≡ rs →
          ArePartedAt (λ (r : R). name_of (of r)) name front behind →
          (map of front ≡ cond has [] (flat_map rows_of (e ∷ [])))
          × (map of behind ≡ cond has [] (flat_map rows_of rings))
      parts_unless true e rings rs front behind by is all whole parted =
          one_part [] [] front behind (ap (map of) whole ∙ all) parted tt tt
      parts_unless false e rings rs front behind by is all whole parted =
          parts_are e rings rs front behind by is all whole parted

-- ---- the rows of one ring, in each table

abbrev pub devices_of : List ℕ × RingRecord → List (rows.NameNumber × rows.Device)
devices_of e = map (device_entry e.0) e.1.devices

abbrev pub texts_of : List ℕ × RingRecord → List (rows.NameNumber × List ℕ)
texts_of e = map (published_entry e.0) e.1.published

abbrev pub seats_of : List ℕ × RingRecord → List (rows.SeatKey × ℤ)
seats_of e = map (seat_entry e.0 e.1.replicas) (enumerate_from 0 e.1.seats)

abbrev pub moves_of : List ℕ × RingRecord → List (rows.NameNumber × ℤ)
moves_of e = flat_map (moved_entry e.0) (enumerate_from 0 e.1.moved)

seats_from : (name : List ℕ) (replicas n : ℕ) (seats : List ℕ) →
    AllByRecursion (λ (x : rows.SeatKey × ℤ). x.0.0 ≡ name)
    (map (seat_entry name replicas) (enumerate_from n seats))
seats_from name replicas n [] = tt
seats_from name replicas n (s ∷ seats) = (refl, seats_from name replicas (n + 1) seats)

pub seats_named : (e : List ℕ × RingRecord) →
    AllByRecursion (λ (x : rows.SeatKey × ℤ). x.0.0 ≡ e.0) (seats_of e)
seats_named e = seats_from e.0 e.1.replicas 0 e.1.seats

moves_from : (name : List ℕ) (n : ℕ) (hours : List (Option ℕ)) →
    AllByRecursion (λ (x : rows.NameNumber × ℤ). x.0.0 ≡ name)
    (flat_map (moved_entry name) (enumerate_from n hours))
moves_from name n [] = tt
moves_from name n (None ∷ hours) = moves_from name (n + 1) hours
moves_from name n (Some hour ∷ hours) = (refl, moves_from name (n + 1) hours)

pub moves_named : (e : List ℕ × RingRecord) →
    AllByRecursion (λ (x : rows.NameNumber × ℤ). x.0.0 ≡ e.0) (moves_of e)
moves_named e = moves_from e.0 0 e.1.moved

-- ---- a ring behind all others

not_after : (a b : List ℕ) → is_before a b ≡ true → is_before b a ≡ false
not_after a b before = turned (name_cmp a b) (name_cmp b a) before (name_total.antisymm a b)
  where
    turned : (o p : Ordering) → is_lt o ≡ true → o ≡ ordering_reverse p → is_lt p ≡ false
    turned o Less before same = let h : o ≡ Greater = same in
        let no_less : is_lt Greater ≡ true = ap is_lt (sym h) ∙ before in cc
    turned o Equal before same = refl
    turned o Greater before same = refl

-- a ring of the list comes before the name
pub ring_before : (name : List ℕ) (rings : List (List ℕ × Rc Ring Global)) (i : ℕ)
    (x : List ℕ × Rc Ring Global) → i < length rings → x ≡ get_or rings i x →
    AllByRecursion (λ (e : List ℕ × RingRecord). is_before e.0 name ≡ true) (seen rings) →
    is_before x.0 name ≡ true
ring_before name [] i x lt is all = absurd (omega arith)
ring_before name (r ∷ rings) zero x lt is all =
    ap (λ (y : List ℕ × Rc Ring Global). is_before y.0 name) is ∙ all.0
ring_before name (r ∷ rings) (suc i) x lt is all =
    ring_before name rings i x (omega arith) is all.1

pub last_ring : (rings : NamedRings) (name : List ℕ) (ring : RingRecord) →
    AllByRecursion (λ (e : List ℕ × RingRecord). is_before e.0 name ≡ true) rings →
    with_ring rings name ring ≡ rings ++ (name, ring) ∷ []
last_ring rings name ring all =
    ap (λ es. es ++ (name, ring) ∷ filter (λ e. is_before name e.0) rings)
    (all_before rings name all) ∙ ap (λ es. rings ++ (name, ring) ∷ es) (none_after rings name all)
  where
    all_before : (rings : NamedRings) (name : List ℕ) →
        AllByRecursion (λ (e : List ℕ × RingRecord). is_before e.0 name ≡ true) rings →
        filter (λ e. is_before e.0 name) rings ≡ rings
    all_before [] name all = refl
    all_before (e ∷ rings) name all =
        ap (λ b. cond b (e ∷ filter (λ x. is_before x.0 name) rings)
        (filter (λ x. is_before x.0 name) rings)) all.0
        ∙ ap (λ es. e ∷ es) (all_before rings name all.1)

    none_after : (rings : NamedRings) (name : List ℕ) →
        AllByRecursion (λ (e : List ℕ × RingRecord). is_before e.0 name ≡ true) rings →
        filter (λ e. is_before name e.0) rings ≡ []
    none_after [] name all = refl
    none_after (e ∷ rings) name all =
        ap (λ b. cond b (e ∷ filter (λ x. is_before name x.0) rings)
        (filter (λ x. is_before name x.0) rings)) (not_after e.0 name all.0)
        ∙ none_after rings name all.1

-- ---- one ring after another

at_front : {X : Type 0} (P : X → Type 0) (xs : List X) (i : ℕ) (x : X) (rest : List X) →
    AllByRecursion P xs → drop i xs ≡ x ∷ rest → P x
at_front P [] i x rest all is = let h : [] ≡ x ∷ rest = sym (drop-nil i) ∙ is in cc
at_front P (y ∷ xs) zero x rest all is = let same : y ≡ x = cc in subst P same all.0
at_front P (y ∷ xs) (suc i) x rest all is = at_front P xs i x rest all.1 is

-- the ring at a place, with those before and behind it
pub ring_there : (all : NamedRings) (i : ℕ) → Rising all → i < length all →
    (e : List ℕ × RingRecord) × (drop i all ≡ e ∷ drop (suc i) all)
    × (take (suc i) all ≡ take i all ++ e ∷ [])
    × AllByRecursion (λ (x : List ℕ × RingRecord). name_cmp x.0 e.0 ≡ Less) (take i all)
    × Rising (e ∷ drop (suc i) all)
ring_there [] i up lt = absurd (omega arith)
ring_there (x ∷ all) zero up lt = (x, refl, refl, tt, up)
ring_there (x ∷ all) (suc i) up lt =
    let more = ring_there all i up.1 (omega arith) in (
      more.0,
      more.1,
      ap (λ es. x ∷ es) more.2,
      (
        at_front (λ (y : List ℕ × RingRecord). name_cmp x.0 y.0 ≡ Less) all i more.0
            (drop (suc i) all) up.0 more.1,
        more.3,
      ),
      more.4,
    )

by_name_of : (all : NamedRings) → Rising all → AreByName all
by_name_of [] up = λ i j d less lt. absurd (omega arith)
by_name_of (e ∷ all) up = AllPairs-cons (λ (a b : List ℕ × RingRecord). is_before a.0 b.0 ≡ true) e
    all (All-from_recursion (λ (b : List ℕ × RingRecord). is_before e.0 b.0 ≡ true) all
    (weaker _ _ (λ x less. ap is_lt less) all up.0)) (by_name_of all up.1)

each_named : (all : NamedRings) (i : ℕ) (e : List ℕ × RingRecord) → All IsNamedRing all →
    drop i all ≡ e ∷ drop (suc i) all → IsNamedRing e
each_named all i e each is = at_front IsNamedRing all i e (drop (suc i) all)
    (recursion_from_All IsNamedRing all each) is

entry_there : (rs : List RingRow) (all : NamedRings) (i : ℕ) (row : RingRow)
    (e : List ℕ × RingRecord) → map ring_of rs ≡ ring_entries all → i < length rs →
    row ≡ get_or rs i row → drop i all ≡ e ∷ drop (suc i) all → ring_of row ≡ ring_entry e
entry_there [] all i row e are lt at is = absurd (omega arith)
entry_there (r ∷ rs) [] i row e are lt at is = cc
entry_there (r ∷ rs) (x ∷ all) zero row e are lt at is =
    let head : ring_of r ≡ ring_entry x = cc in
    let same : x ≡ e = cc in
    ap ring_of at ∙ head ∙ ap ring_entry same
entry_there (r ∷ rs) (x ∷ all) (suc i) row e are lt at is =
    let tail : map ring_of rs ≡ ring_entries all = cc in
    entry_there rs all i row e tail (omega arith) at is

-- What is known of the ring whose row is read next.
pub record Next (is_first : Bool) (rs : List RingRow) (row : RingRow) (rest : RingTables)
    (all : NamedRings) (i : ℕ) : Type 0 where
  pub e : List ℕ × RingRecord
  pub taken : take (i + 1) all ≡ take i all ++ e ∷ []
  pub is : ring_of row ≡ ring_entry e
  pub named : IsNamedRing e
  pub before : All (λ (x : List ℕ × RingRecord). is_before x.0 e.0 ≡ true) (take i all)
  pub few : length (take i all) < 16
  pub by : AreByName (e ∷ drop (i + 1) all)
  pub say : SayRest is_first rest (e ∷ drop (i + 1) all)

pub next_ring : (is_first : Bool) (rs : List RingRow) (row : RingRow) (tables rest : RingTables)
    (all : NamedRings) (i : ℕ) → SayTables is_first rs tables all → i < length rs →
    row ≡ get_or rs i row → SayRest is_first rest (drop i all) → Next is_first rs row rest all i
next_ring is_first rs row tables rest all i s lt at say =
    let count : length rs ≡ length all = sym (length-map rs ring_of) ∙ ap length s.rings_are
    ∙ length-map all ring_entry in
    let there = ring_there all i (rising all s.held.by_name) (omega arith) in
    let next : suc i ≡ i + 1 = omega arith in
    let behind = ap (λ (k : ℕ). there.0 ∷ drop k all) next in
    record {
      e = there.0;
      taken = ap (λ (k : ℕ). take k all) (sym next) ∙ there.2;
      is = entry_there rs all i row there.0 s.rings_are lt at there.1;
      named = each_named all i there.0 s.held.each there.1;
      before = All-from_recursion (λ (x : List ℕ × RingRecord). is_before x.0 there.0.0 ≡ true)
          (take i all) (weaker _ _ (λ x less. ap is_lt less) (take i all) there.3);
      few = let taken = length-take-le i all (omega arith) in let most = s.held.count in omega arith;
      by = subst AreByName behind (by_name_of (there.0 ∷ drop (suc i) all) there.4);
      say = subst (SayRest is_first rest) (there.1 ∙ behind) say;
    }

-- The row of a ring and its rows elsewhere stand for it.
pub stands_of : (is_first : Bool) (row : RingRow) (tables : RingTables) (e : List ℕ × RingRecord) →
    SayRest is_first tables (e ∷ []) → ring_of row ≡ ring_entry e → IsNamedRing e →
    StandForRing is_first row tables e.1
stands_of is_first row tables e say is named = record {
  name = e.0;
  is = is;
  devices = say.devices ∙ append-nil (devices_of e);
  published = say.published ∙ append-nil (texts_of e);
  seats = say.seats ∙ ap (λ es. cond is_first es []) (append-nil (seats_of e));
  moved = say.moved ∙ ap (λ es. cond is_first es []) (append-nil (moves_of e));
  parts = say.parts ∙ ap (λ es. cond is_first [] es) (append-nil (part_entries_of e));
  proper = named;
}

-- No rows are left behind those of the last ring.
pub none_left : (is_first : Bool) (rs : List RingRow) (tables rest : RingTables) (all : NamedRings)
    (i : ℕ) → SayTables is_first rs tables all → length rs ≤ i → SayRest is_first rest (drop i all) →
    SayRest is_first rest []
none_left is_first rs tables rest all i s past say =
    let count : length rs ≡ length all = sym (length-map rs ring_of) ∙ ap length s.rings_are
    ∙ length-map all ring_entry in
    subst (SayRest is_first rest) (drop_all i all (omega arith)) say

pub named_as_row : (row : RingRow) (e : List ℕ × RingRecord) → ring_of row ≡ ring_entry e →
    string_bytes row.name ≡ e.0
named_as_row row e is = ap (λ (x : List ℕ × rows.Ring). x.0) is
