use Rattle.std.proofs.Common.{◌≡◌, map, ap, sym, ◌∙◌, subst}
use Rattle.std.proofs.lemmas.List.{length-map}
use Rattle.ring_model.specs.Ring.{RingRecord, altered_at, with_altered}
use Rattle.ring_model.specs.Parts.{record_of}
use Rattle.ring_model.specs.Valid.{IsValid}
use Rattle.ring_model.proofs.Changes.{AreProperRows, altered_keeps, altered_valid, changed_valid}
use Rattle.ring_model.proofs.Changes.{written_all}
use Rattle.ring_model.proofs.ring.Ring.with_altered.Goals as goal

pub invariant_of-result : goal.invariant_of-result
invariant_of-result c =
    let parts = c.in_ok-parts.parts in
    let f = altered_at c.args.id c.args.what in
    let written = written_all parts.devices.items (map f parts.devices.items) parts.devices.len
    parts.devices.ok.0 (length-map _ _) in
    let now : c.deref.result.now ≡ map f parts.devices.items =
    c.deref.ensures.value ∙ rw (c.alter_all.ensures, c.deref_mut.ensures.value) written in
    let copied : IsValid (record_of parts) =
    subst IsValid (sym c.in_ok-parts.ensures) c.self.invariant in
    rw (c.alter_all.ensures, c.deref_mut.ensures.value, c.risen.ensures, written)
    (changed_valid _ (altered_valid f (altered_keeps c.args.id c.args.what) (record_of parts) copied
    (subst AreProperRows now c.devices_are_proper.ensures)))

pub returns : goal.returns
returns c =
    let parts = c.in_ok-parts.parts in
    rw (
      c.alter_all.ensures,
      c.deref_mut.ensures.value,
      c.risen.ensures,
      written_all parts.devices.items (map (altered_at c.args.id c.args.what) parts.devices.items)
          parts.devices.len parts.devices.ok.0 (length-map _ _),
    )
    (ap (λ (r : RingRecord). with_altered r c.args.id c.args.what) (c.in_ok-parts.ensures ∙
    c.self.view_is))
