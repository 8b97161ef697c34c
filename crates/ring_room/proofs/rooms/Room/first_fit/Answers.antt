use Rattle.std.proofs.Common.{◌∙◌, ℕ, sym, get_or, length, below_more, arith, ap}
use Rattle.ring_room.specs.Cards.{fits}
use Rattle.ring_room.specs.Places.{seats_at}
use Rattle.ring_room.proofs.Steps.{first_is, first_none}
use Rattle.ring_room.proofs.rooms.Room.first_fit.Goals as goal

pub loop-index-init : goal.loop-index-init
loop-index-init c k lt = absurd (omega (arith, lt))

pub returns-then-fits-clause-by_name : goal.returns-then-fits-clause-by_name
returns-then-fits-clause-by_name c =
    let now = c.args.self.now in
    let test = λ (index : ℕ). fits now (seats_at now.devices c.args.others.now) c.args.crowd
    (get_or c.args.cards.now index 0) in
    first_is test (length c.args.cards.now) c.loop-index.index c.loop-index-test.true
    c.loop-index.invariant
    (ap (fits now (seats_at now.devices c.args.others.now) c.args.crowd) (sym c.from.ensures) ∙
    sym c.if-fits.ensures)

pub returns-then-fits-clause-fits : goal.returns-then-fits-clause-fits
returns-then-fits-clause-fits c =
    let now = c.args.self.now in
    ap (fits now (seats_at now.devices c.args.others.now) c.args.crowd) (sym c.from.ensures) ∙
    sym c.if-fits.ensures

pub loop-index-preserved : goal.loop-index-preserved
loop-index-preserved c =
    let now = c.args.self.now in
    below_more _ _ c.loop-index.invariant
    (ap (fits now (seats_at now.devices c.args.others.now) c.args.crowd) (sym c.from.ensures) ∙
    sym c.if-fits.ensures)

pub returns-clause-by_name : goal.returns-clause-by_name
returns-clause-by_name c =
    let now = c.args.self.now in
    first_none (λ (index : ℕ). fits now (seats_at now.devices c.args.others.now) c.args.crowd
    (get_or c.args.cards.now index 0)) (length c.args.cards.now)
    (λ k lt. c.loop-index.invariant k (omega (arith, lt)))
