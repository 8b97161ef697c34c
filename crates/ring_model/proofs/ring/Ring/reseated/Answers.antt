use Rattle.std.proofs.Common.{◌∙◌, sym, ap, subst}
use Rattle.ring_model.specs.Ring.{RingRecord}
use Rattle.ring_model.specs.Reseat.{reseated}
use Rattle.ring_model.specs.Valid.{IsValid}
use Rattle.ring_model.proofs.Copies.{same_texts}
use Rattle.ring_model.proofs.ring.Ring.reseated.Goals as goal

pub of_parts-requires : goal.of_parts-requires
of_parts-requires c =
    let devices = c.args.devices.items in
    let seats = c.args.seats.items in
    let moved = c.args.moved.items in
    rw (same_texts _ _ c.in_ok-published.ensures.cases.0, c.risen.ensures)
    (subst (λ (r : RingRecord). IsValid (reseated r devices seats moved)) (sym c.self.view_is)
    c.requires)

pub returns : goal.returns
returns c =
    let devices = c.args.devices.items in
    let seats = c.args.seats.items in
    let moved = c.args.moved.items in
    c.of_parts.ensures
    ∙ rw (same_texts _ _ c.in_ok-published.ensures.cases.0, c.risen.ensures)
    (ap (λ (r : RingRecord). reseated r devices seats moved) c.self.view_is)
