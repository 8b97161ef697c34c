use Rattle.std.proofs.Common.{◌≡◌, ◌+◌, ◌<◌, map, ap, sym, ◌∙◌, ◌++◌, ◌∷◌, [], ℕ, Option, None}
use Rattle.std.proofs.Common.{length, arith, get_or}
use Rattle.std.specs.List.{enumerate_from}
use Rattle.std.specs.Option.{option_map}
use Rattle.std.proofs.lemmas.List.FromFn.{length-enumerate_from, get_or-enumerate_from}
use Rattle.store_model.specs.Contents.{part_of}
use Rattle.store_model.specs.Entries.{name_number_cmp}
use Rattle.store_rows.specs.Differences.{is_same_part}
use Rattle.store_rows.specs.RingRows.{part_entry, part_entries_of}
use Rattle.store_rows.specs.Inner.Lacking.{lacking, rows_at}
use Rattle.std.proofs.lemmas.List.{take_all}
use Rattle.store_rows.proofs.Steps.{step_more, entries_more, any_default}
use Rattle.store_rows.proofs.Unchanged.{same_parts, adds_no_part}
use Rattle.store_rows.proofs.differences.push_parts.Goals as goal

pub returns-then-has_same_places : goal.returns-then-has_same_places
returns-then-has_same_places c =
    let n = c.args.name.now in
    let old = option_map (λ ring. ring.now) c.args.old in
    adds_no_part (map part_of c.args.into.now.items) n old c.args.ring.now (same_parts n old
    c.args.ring.now (c.has_same_places.ensures c.if-has_same_places.true))

pub loop-partition-preserved : goal.loop-partition-preserved
loop-partition-preserved c =
    let n = c.args.name.now in
    let r = c.args.ring.now in
    let old = rows_at part_entries_of n (option_map (λ ring. ring.now) c.args.old) in
    let p = c.loop-partition.partition in
    let len : length c.moves-partition-end.result.now ≡ length r.moved =
    ap length c.moves-partition-end.ensures.value in
    let count = length-enumerate_from 0 r.moved in
    let at : p < length r.moved = omega arith in
    let none : 0 + p ≡ p = omega arith in
    let long : p < length (enumerate_from 0 r.moved) = omega arith in
    let x : ℕ × Option ℕ = (p, get_or r.moved p None) in
    let place : x ≡ get_or (enumerate_from 0 r.moved) p x =
    (λ i. (sym none i, get_or r.moved p None)) ∙ sym (get_or-enumerate_from 0 r.moved p (
      p,
      None,
    ) at) ∙ any_default (enumerate_from 0 r.moved) p (p, None) x long in
    step_more {X = ℕ × Option ℕ} (λ es. lacking name_number_cmp is_same_part old
    (map (part_entry n r.replicas r.seats) es)) (λ e. lacking name_number_cmp is_same_part old
    (part_entry n r.replicas r.seats e ∷ []))
    (entries_more name_number_cmp is_same_part old (part_entry n r.replicas r.seats))
    (enumerate_from 0 r.moved) p (p, get_or r.moved p None) long place
    (map part_of c.args.into.now.items) (map part_of c.loop-partition.into.items)
    (map part_of c.push_new_part.new.into.items) c.loop-partition.invariant
    c.in_ok-push_new_part.ensures

pub returns : goal.returns
returns c =
    let n = c.args.name.now in
    let r = c.args.ring.now in
    let old = rows_at part_entries_of n (option_map (λ ring. ring.now) c.args.old) in
    let len : length c.moves-partition-end.result.now ≡ length r.moved =
    ap length c.moves-partition-end.ensures.value in
    let count = length-enumerate_from 0 r.moved in
    c.loop-partition.invariant
    ∙ ap (λ es. map part_of c.args.into.now.items ++ lacking name_number_cmp is_same_part old
    (map (part_entry n r.replicas r.seats) es)) (take_all c.loop-partition.partition
    (enumerate_from 0 r.moved) (omega arith))
