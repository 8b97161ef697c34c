use Rattle.std.proofs.Common.{◌<◌, ◌∙◌, ap, arith, length, sym}
use Rattle.ring_share.specs.Crowd.{is_less}
use Rattle.ring_room.specs.Places.{seats_at}
use Rattle.ring_room.proofs.Searching.CardsFit.{does_fit}
use Rattle.ring_room.proofs.rooms.Room.fits.Goals as goal

pub returns-then-is_free_at : goal.returns-then-is_free_at
returns-then-is_free_at c =
    let now = c.args.self.now in
    let count = c.count.ensures.count in
    let within : c.args.place < length now.devices = omega (arith, count, c.if-place-count.false) in
    does_fit now (seats_at now.devices c.args.others.now) c.args.crowd c.args.place
    c.is_less.result within (sym c.is_free_at.ensures ∙ c.if-is_free_at.true)
    (c.is_less.ensures ∙ ap (is_less c.args.crowd) c.crowd_by.ensures)
