use Rattle.std.proofs.Common.{take, ◌≡◌, ◌∙◌, ℕ, ap, subst, false}
use Rattle.ring_share.specs.Crowd.{others}
use Rattle.ring_room.specs.Load.{IsLeast, crowd_in, is_free_in}
use Rattle.ring_room.specs.Places.{seats_at}
use Rattle.ring_room.proofs.Searching.LessCrowded.{crowded_same, less_found, less_none}
use Rattle.ring_place.proofs.surplus.has_less_crowded.Goals as goal

pub returns-in-None : goal.returns-in-None
returns-in-None c =
    let room = c.args.room.now in
    let row = c.args.row.now in
    let replica = c.args.replica in
    less_none room (others row replica) c.args.device
    (subst (λ s. (id : ℕ) → is_free_in room s id ≡ false) c.others_of-count.ensures.by_name
    c.in-None.ensures.none)
    ∙ crowded_same room row replica c.args.device c.requires.at

pub returns-in-Some : goal.returns-in-Some
returns-in-Some c =
    let room = c.args.room.now in
    let row = c.args.row.now in
    let replica = c.args.replica in
    let same = c.others_of-count.ensures.by_name in
    let way = c.in-Some.ensures.some in
    less_found room (others row replica) c.args.device way.best c.is_less.result c.in-Some.to
    c.crowd_at.result (subst (λ s. IsLeast room s way.best) same way.least) c.is_less.ensures
    (way.is ∙ ap (λ s. crowd_in room s way.best) same)
    (c.crowd_at.ensures ∙ ap (crowd_in room (seats_at room.devices (take
    c.others_of-count.result.1 c.others_of-count.result.0))) c.place_of-own.ensures.number
    ∙ ap (λ s. crowd_in room s c.args.device) same)
    ∙ crowded_same room row replica c.args.device c.requires.at
