use Rattle.std.proofs.Common.{List, suc, drop, length, map, ap, refl, sym, subst, ◌∙◌, ◌++◌}
use Rattle.std.proofs.Common.{Option, None, Some, ◌==◌, arith}
use Rattle.std.specs.Option.{option_map}
use Rattle.std.specs.Borrow.{Bor}
use Rattle.ring_model.specs.Ring.{RingRecord}
use Rattle.ring_model.specs.Rings.{seen}
use Rattle.std.specs.List.{flat_map}
use Rattle.store_model.specs.Contents.{part_of}
use Rattle.store_model.specs.declared.rows.PartRow.{PartRow}
use Rattle.store_rows.specs.RingRows.{part_entries_of}
use Rattle.store_rows.specs.Inner.Sayings.{AreBehindParts}
use Rattle.store_rows.proofs.FoundRows.{empty_of}
use Rattle.store_rows.proofs.InTurn.{at_the_end, next_begins, one_more}
use Rattle.store_rows.proofs.judging.are_parts_of.Goals as goal

pub loop-entry-init : goal.loop-entry-init
loop-entry-init c = refl

pub returns-in-None : goal.returns-in-None
returns-in-None c =
    let name = c.entry-item.result.0 in
    let none : AreBehindParts c.loop-entry.rest.now (name, c.as_ref.result.now) None =
    subst (λ (found : Option (Bor (List PartRow))). AreBehindParts c.loop-entry.rest.now
    (name, c.as_ref.result.now) (option_map (λ (rest : Bor (List PartRow)). rest.now) found))
    c.in-None.is c.in_ok-behind.ensures in (
      λ t. cc,
      λ says. absurd (none _ (next_begins part_entries_of part_of c.args.rows.now
          c.loop-entry.rest.now c.list-entry-items.result.now c.loop-entry.entry-index
          c.entry-item.result c.loop-entry-test.true c.entry-item.is c.loop-entry.invariant
          (says ∙ ap (flat_map part_entries_of) (sym c.list-entry-items.ensures.value))
          ∙ ap (λ (r : RingRecord). part_entries_of (name, r) ++ flat_map part_entries_of
          (seen (drop (suc c.loop-entry.entry-index) c.list-entry-items.result.now)))
          (sym c.as_ref.ensures))),
    )

pub loop-entry-preserved : goal.loop-entry-preserved
loop-entry-preserved c =
    let name = c.entry-item.result.0 in
    let some : AreBehindParts c.loop-entry.rest.now (name, c.as_ref.result.now)
    (Some c.in-Some.behind.now) =
    subst (λ (found : Option (Bor (List PartRow))). AreBehindParts c.loop-entry.rest.now
    (name, c.as_ref.result.now) (option_map (λ (rest : Bor (List PartRow)). rest.now) found))
    c.in-Some.is c.in_ok-behind.ensures in
    one_more part_entries_of part_of c.args.rows.now c.loop-entry.rest.now c.in-Some.behind.now
    c.list-entry-items.result.now c.loop-entry.entry-index c.entry-item.result
    c.loop-entry-test.true c.entry-item.is c.loop-entry.invariant
    (some ∙ ap (λ (r : RingRecord). part_entries_of (name, r) ++ map part_of c.in-Some.behind.now)
    c.as_ref.ensures)

pub returns : goal.returns
returns c =
    let end = at_the_end part_entries_of part_of c.args.rows.now c.loop-entry.rest.now
    c.list-entry-items.result.now c.loop-entry.entry-index (omega arith) c.loop-entry.invariant in (
      λ t. end.0 (empty_of c.loop-entry.rest.now (length c.loop-entry.rest.now) refl
          (sym c.is_empty.ensures ∙ t)) ∙ ap (flat_map part_entries_of)
          c.list-entry-items.ensures.value,
      λ says. c.is_empty.ensures ∙ ap (λ (rs : List PartRow). length rs == 0)
          (end.1 (says ∙ ap (flat_map part_entries_of) (sym c.list-entry-items.ensures.value))),
    )
