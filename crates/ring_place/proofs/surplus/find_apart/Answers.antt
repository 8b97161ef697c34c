use Rattle.std.proofs.Common.{take, ◌∙◌, ap, sym, subst, false, true}
use Rattle.std.specs.Option.{IfNone}
use Rattle.ring_share.specs.Crowd.{others}
use Rattle.ring_room.specs.Load.{crowd_in}
use Rattle.ring_room.specs.Places.{seats_at}
use Rattle.ring_place.specs.Inner.Gathering.{CannotGoApart}
use Rattle.ring_place.proofs.Gathering.ApartSeats.{can_go, cannot_go, found_apart, nowhere_to_go}
use Rattle.ring_place.proofs.surplus.find_apart.Goals as goal

pub returns-in_err-to-clause-none : goal.returns-in_err-to-clause-none
returns-in_err-to-clause-none c =
    let room = c.args.room.now in
    let rest = others c.args.row.now c.args.replica in
    subst (λ o. IfNone o (CannotGoApart room rest c.args.device)) (sym c.from_residual.ensures)
    (nowhere_to_go room rest _ c.others_of-count.ensures.by_name c.args.device
    c.in_err-to.ensures.none)

pub returns-then-is_less-clause-none : goal.returns-then-is_less-clause-none
returns-then-is_less-clause-none c =
    let room = c.args.room.now in
    let way = c.in_ok-to.ensures.some in
    cannot_go room (others c.args.row.now c.args.replica) (seats_at room.devices (take
    c.others_of-count.result.1 c.others_of-count.result.0)) c.others_of-count.ensures.by_name
    c.args.device way.best c.crowd_at.result c.in_ok-to.to way.least way.is
    (c.crowd_at.ensures ∙ ap (crowd_in room (seats_at room.devices (take
    c.others_of-count.result.1 c.others_of-count.result.0))) c.place_of-own.ensures.number)
    (sym c.is_less.ensures ∙ c.if-is_less.true)

pub returns-else-is_less-clause-some : goal.returns-else-is_less-clause-some
returns-else-is_less-clause-some c =
    let room = c.args.room.now in
    let way = c.in_ok-to.ensures.some in
    can_go room (others c.args.row.now c.args.replica) (seats_at room.devices (take
    c.others_of-count.result.1 c.others_of-count.result.0)) c.others_of-count.ensures.by_name
    c.args.device way.best c.crowd_at.result c.in_ok-to.to way.least way.is
    (c.crowd_at.ensures ∙ ap (crowd_in room (seats_at room.devices (take
    c.others_of-count.result.1 c.others_of-count.result.0))) c.place_of-own.ensures.number)
    (sym c.is_less.ensures ∙ c.if-is_less.false)

pub returns-then-is_less-clause-by_name : goal.returns-then-is_less-clause-by_name
returns-then-is_less-clause-by_name c =
    let room = c.args.room.now in
    found_apart room (others c.args.row.now c.args.replica) (seats_at room.devices (take
    c.others_of-count.result.1 c.others_of-count.result.0)) c.others_of-count.ensures.by_name
    c.args.device c.crowd_at.result c.in_ok-to.to true c.in_ok-to.ensures.by_name
    (c.crowd_at.ensures ∙ ap (crowd_in room (seats_at room.devices (take
    c.others_of-count.result.1 c.others_of-count.result.0))) c.place_of-own.ensures.number)
    (sym c.is_less.ensures ∙ c.if-is_less.true)

pub returns-else-is_less-clause-by_name : goal.returns-else-is_less-clause-by_name
returns-else-is_less-clause-by_name c =
    let room = c.args.room.now in
    found_apart room (others c.args.row.now c.args.replica) (seats_at room.devices (take
    c.others_of-count.result.1 c.others_of-count.result.0)) c.others_of-count.ensures.by_name
    c.args.device c.crowd_at.result c.in_ok-to.to false c.in_ok-to.ensures.by_name
    (c.crowd_at.ensures ∙ ap (crowd_in room (seats_at room.devices (take
    c.others_of-count.result.1 c.others_of-count.result.0))) c.place_of-own.ensures.number)
    (sym c.is_less.ensures ∙ c.if-is_less.false)
