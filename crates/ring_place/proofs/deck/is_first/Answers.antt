use Rattle.std.proofs.Common.{◌∙◌, ap, arith, not, sym}
use Rattle.ring_room.specs.Cards.{shares_zone}
use Rattle.ring_share.proofs.Rows.{none_below, some_below}
use Rattle.ring_place.proofs.deck.is_first.Goals as goal

pub returns-then-shares_zone : goal.returns-then-shares_zone
returns-then-shares_zone c =
    ap not (sym (some_below (shares_zone c.args.room.now c.args.place) c.args.place
    c.loop-other.other (omega arith) (sym c.shares_zone.ensures ∙ c.if-shares_zone.true)))

pub returns : goal.returns
returns c =
    ap not (sym (none_below (shares_zone c.args.room.now c.args.place) c.args.place
    (λ k lt. c.loop-other.invariant k (omega (arith, lt)))))
