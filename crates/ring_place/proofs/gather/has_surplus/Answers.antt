use Rattle.std.proofs.Common.{◌∙◌, ap, sym, length, arith}
use Rattle.std.specs.Prelude.{nat_lt}
use Rattle.ring_room.specs.Load.{have_in, want_in}
use Rattle.ring_share.proofs.Rows.{none_below, some_below}
use Rattle.ring_place.specs.Made.{is_over_at}
use Rattle.ring_place.proofs.gather.has_surplus.Goals as goal

pub returns-then-is_over : goal.returns-then-is_over
returns-then-is_over c =
    let kept = c.args.kept.now in
    sym (some_below (is_over_at kept) (length kept.devices) c.loop-place.place (omega arith)
    (ap (λ id. nat_lt (want_in kept id) (have_in kept id)) (sym c.id_of.ensures.number)
    ∙ sym c.is_over.ensures ∙ c.if-is_over.true))

pub returns : goal.returns
returns c =
    let kept = c.args.kept.now in
    sym (none_below (is_over_at kept) (length kept.devices)
    (λ k lt. c.loop-place.invariant k (omega (arith, lt))))
