use Rattle.std.proofs.Common.{◌≡◌, ◌<◌, ◌≤◌, List, [], map, length, ap, sym}
use Rattle.std.proofs.Common.{◌∙◌, ◌++◌, arith}
use Rattle.std.specs.Vec.{vec_len}
use Rattle.std.proofs.lemmas.List.{length-map, take-append-drop}
use Rattle.store_model.specs.Contents.{part_of}
use Rattle.store_model.specs.Entries.{NameNumber, Part, name_number_cmp}
use Rattle.store_model.specs.declared.rows.PartRow.{PartRow}
use Rattle.store_rows.specs.Differences.{is_same_part}
use Rattle.store_rows.specs.Inner.Lacking.{lacking}
use Rattle.store_rows.specs.RingRows.{part_entries_of}
use Rattle.store_rows.proofs.InTurn.{long_enough, same_front}
use Rattle.store_rows.proofs.Steps.{alike_by, alike_map, lacking_nothing, map_append}
use Rattle.store_rows.proofs.judging.behind_parts.Goals as goal

-- the rows that are put behind none are those of the ring
are_made : (none rows : List PartRow) (entries : List (NameNumber × Part)) → none ≡ []
    → map part_of rows ≡ map part_of none ++ lacking name_number_cmp is_same_part [] entries
    → map part_of rows ≡ entries
are_made none rows entries is put = put ∙ ap (λ (rs : List PartRow). map part_of rs ++
    lacking name_number_cmp is_same_part [] entries) is
    ∙ lacking_nothing name_number_cmp is_same_part entries

-- and as many
are_as_many : (rows : List PartRow) (entries : List (NameNumber × Part)) → map part_of rows ≡ entries
    → length entries ≡ length rows
are_as_many rows entries made = ap length (sym made) ∙ length-map rows part_of

pub returns-in_default : goal.returns-in_default
returns-in_default c = λ more is.
    let entries = part_entries_of (c.args.name.now, c.args.ring.now) in
    let made = are_made c.new-parts.result.items c.push_parts.new.into.items entries
    c.new-parts.ensures.items c.in_ok-push_parts.ensures in
    let as_many = are_as_many c.push_parts.new.into.items entries made in
    let long : length entries ≤ length c.args.rows.now =
    long_enough part_of c.args.rows.now entries more is in
    let few : length c.args.rows.now < c.len.result = c.in_default.ensures.cases in
    let len : c.len.result ≡ vec_len c.push_parts.new.into = c.len.ensures in
    omega arith

pub returns-then-not-are_alike : goal.returns-then-not-are_alike
returns-then-not-are_alike c = λ more is.
    let entries = part_entries_of (c.args.name.now, c.args.ring.now) in
    let made = are_made c.new-parts.result.items c.push_parts.new.into.items entries
    c.new-parts.ensures.items c.in_ok-push_parts.ensures in
    let split = c.in-Some.ensures.cases in
    let whole : c.in-Some.front.now ++ c.in-Some.behind.now ≡ c.args.rows.now =
    (λ i. split.1 i ++ split.2 i) ∙ take-append-drop c.len.result c.args.rows.now in
    let as_many = are_as_many c.push_parts.new.into.items entries made in
    let cut : length c.in-Some.front.now ≡ c.len.result = split.3 in
    let len : c.len.result ≡ vec_len c.push_parts.new.into = c.len.ensures in
    let long : length c.in-Some.front.now ≡ length entries = omega arith in
    let front : map part_of c.in-Some.front.now ≡ entries =
    same_front part_of c.in-Some.front.now c.in-Some.behind.now entries more long
    (ap (map part_of) whole ∙ is) in
    let same = c.are_alike.ensures.1 (alike_by part_of c.in-Some.front.now c.as_slice.result.now
    (front ∙ sym made ∙ ap (map part_of) (sym c.as_slice.ensures.value))) in
    let not = c.if-not-are_alike.true in
    cc

pub returns : goal.returns
returns c =
    let entries = part_entries_of (c.args.name.now, c.args.ring.now) in
    let made = are_made c.new-parts.result.items c.push_parts.new.into.items entries
    c.new-parts.ensures.items c.in_ok-push_parts.ensures in
    let split = c.in-Some.ensures.cases in
    let whole : c.in-Some.front.now ++ c.in-Some.behind.now ≡ c.args.rows.now =
    (λ i. split.1 i ++ split.2 i) ∙ take-append-drop c.len.result c.args.rows.now in
    ap (map part_of) (sym whole) ∙ map_append part_of c.in-Some.front.now c.in-Some.behind.now
    ∙ ap (λ es. es ++ map part_of c.in-Some.behind.now)
    (alike_map part_of c.in-Some.front.now c.as_slice.result.now
    (c.are_alike.ensures.0 c.if-not-are_alike.false) ∙ ap (map part_of) c.as_slice.ensures.value
    ∙ made)
