use Rattle.std.proofs.Common.{sym, ap, ◌∙◌}
use Rattle.ring_share.specs.Crowd.{is_less}
use Rattle.ring_room.specs.Load.{crowd_in, is_free_in}
use Rattle.ring_room.specs.Places.{id_at, seats_at}
use Rattle.ring_place.proofs.Placing.ChosenDevices.{own_crowded, own_is_least, own_not_free}
use Rattle.ring_room.proofs.Searching.ByName.{own_compared, own_not_there}
use Rattle.ring_place.proofs.place.own_or.Goals as goal

pub returns-then-not-is_free_at-clause-own_wins : goal.returns-then-not-is_free_at-clause-own_wins
returns-then-not-is_free_at-clause-own_wins c =
    let now = c.args.room.now in
    let row = seats_at now.devices c.args.others.now in
    own_not_free now row c.args.own c.in-Some.own (id_at now.devices c.args.best) c.in-Some.is
    (ap (is_free_in now row) (sym c.place_of-own.ensures.number) ∙ sym c.is_free_at.ensures ∙
    c.if-not-is_free_at.true)

pub returns-then-is_less-clause-own_wins : goal.returns-then-is_less-clause-own_wins
returns-then-is_less-clause-own_wins c =
    let now = c.args.room.now in
    let row = seats_at now.devices c.args.others.now in
    let best = id_at now.devices c.args.best in
    own_crowded now row c.args.own c.in-Some.own best c.in-Some.is
    (ap (λ id. is_less (crowd_in now row best) (crowd_in now row id))
    (sym c.place_of-own.ensures.number)
    ∙ (cc (c.if-is_less.ensures, c.crowd_at.ensures, c.crowd_at-2.ensures)))

pub returns-clause-least : goal.returns-clause-least
returns-clause-least c =
    let now = c.args.room.now in
    own_is_least now (seats_at now.devices c.args.others.now)
    (id_at now.devices c.place_of-own.result) (id_at now.devices c.args.best) c.requires.best
    (sym c.is_free_at.ensures ∙ c.if-not-is_free_at.false)
    (cc (c.if-is_less.ensures, c.crowd_at.ensures, c.crowd_at-2.ensures))

pub returns-then-not-is_free_at-clause-value : goal.returns-then-not-is_free_at-clause-value
returns-then-not-is_free_at-clause-value c =
    let now = c.args.room.now in
    let row = seats_at now.devices c.args.others.now in
    own_not_there now row c.args.own c.in-Some.own c.args.best c.in-Some.is
    (ap (is_free_in now row) (sym c.place_of-own.ensures.number) ∙ sym c.is_free_at.ensures ∙
    c.if-not-is_free_at.true)

pub returns-then-is_less-clause-value : goal.returns-then-is_less-clause-value
returns-then-is_less-clause-value c =
    let now = c.args.room.now in
    let row = seats_at now.devices c.args.others.now in
    let best = id_at now.devices c.args.best in
    own_compared now row c.args.own c.in-Some.own c.args.best _ c.in-Some.is
    (ap (is_free_in now row) (sym c.place_of-own.ensures.number) ∙ sym c.is_free_at.ensures ∙
    c.if-not-is_free_at.false)
    (ap (λ id. is_less (crowd_in now row best) (crowd_in now row id))
    (sym c.place_of-own.ensures.number)
    ∙ sym (cc (c.if-is_less.ensures, c.crowd_at.ensures, c.crowd_at-2.ensures)) ∙ c.if-is_less.true)

pub returns-clause-value : goal.returns-clause-value
returns-clause-value c =
    let now = c.args.room.now in
    let row = seats_at now.devices c.args.others.now in
    let best = id_at now.devices c.args.best in
    c.place_of-own.ensures.value ∙ own_compared now row c.args.own c.in-Some.own c.args.best _ c.in-Some.is
    (ap (is_free_in now row) (sym c.place_of-own.ensures.number) ∙ sym c.is_free_at.ensures ∙
    c.if-not-is_free_at.false)
    (ap (λ id. is_less (crowd_in now row best) (crowd_in now row id))
    (sym c.place_of-own.ensures.number)
    ∙ sym (cc (c.if-is_less.ensures, c.crowd_at.ensures, c.crowd_at-2.ensures)) ∙ c.if-is_less.false)
