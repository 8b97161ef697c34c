use Rattle.std.proofs.Common.{arith}
use Rattle.std.proofs.lemmas.Grind.{common_steps}
use Rattle.std.proofs.Common.{rules}
use Rattle.std.proofs.Common.{◌≡◌, map, false, ap, sym, ◌∙◌}
use Rattle.std.proofs.lemmas.List.{length-map}
use Rattle.ring_model.specs.Ring.{RingRecord}
use Rattle.ring_words.specs.Rows.{has_place}
use Rattle.ring_model.specs.Import.{after_row, reweighed_by}
use Rattle.ring_model.specs.Parts.{record_of}
use Rattle.ring_model.proofs.Changes.{added_valid, after_free, altered_valid, reweighed_by_keeps}
use Rattle.ring_model.proofs.Changes.{reweighed_by_proper, written_all}
use Rattle.ring_words.proofs.AlikeRows.{same_row}
use Rattle.ring_model.proofs.draft.Draft.put.Goals as goal

pub invariant_of-self : goal.invariant_of-self
invariant_of-self c =
    let parts = c.self.inside.parts in
    let f = reweighed_by c.args.row.now in
    rw (
      c.alter_all.ensures,
      c.deref_mut.ensures.value,
      written_all parts.devices.items
          (map f parts.devices.items) parts.devices.len parts.devices.ok.0 (length-map _ _),
    )
    (altered_valid f (reweighed_by_keeps c.args.row.now) (record_of parts) c.self.invariant
    (reweighed_by_proper c.args.row.now c.row_is_proper.ensures (record_of parts) c.self.invariant))

pub invariant_of-self-2 : goal.invariant_of-self-2
invariant_of-self-2 c =
    let old : RingRecord = record_of c.self.inside.parts in
    let row : c.in_ok-clone.field-0 ≡ c.args.row.now = same_row _ _ c.in_ok-clone.ensures.cases in
    let free : has_place c.args.row.now old.devices ≡ false =
    ap (has_place c.args.row.now) (sym c.deref.ensures.value) ∙ sym c.if-has_place_in.ensures in
    rw (c.in_ok-push.ensures.items, row) (added_valid old c.args.row.now c.self.invariant
    ((rw (← c.self.view_is) at c.requires.room) free)
    ((rw (← c.self.view_is) at c.requires.numbers) free) free c.row_is_proper.ensures)

pub returns-in_err-push-clause-err : goal.returns-in_err-push-clause-err
returns-in_err-push-clause-err c = search rules

pub returns-clause-ok : goal.returns-clause-ok
returns-clause-ok c =
    let old : RingRecord = record_of c.self.inside.parts in
    let row : c.in_ok-clone.field-0 ≡ c.args.row.now = same_row _ _ c.in_ok-clone.ensures.cases in
    let free : has_place c.args.row.now old.devices ≡ false =
    ap (has_place c.args.row.now) (sym c.deref.ensures.value) ∙ sym c.if-has_place_in.ensures in
    rw (c.in_ok-push.ensures.items, row) (sym (after_free old c.args.row.now free) ∙
    ap (λ (r : RingRecord). after_row r c.args.row.now) c.self.view_is)

pub returns-then-has_place_in-clause-ok : goal.returns-then-has_place_in-clause-ok
returns-then-has_place_in-clause-ok c = grind (arith, common_steps)
