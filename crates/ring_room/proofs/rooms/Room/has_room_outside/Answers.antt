use Rattle.std.proofs.Common.{◌≡◌, not, false, below_more, get_or, take, sym, ap, ◌∙◌, arith}
use Rattle.ring_room.specs.Load.{is_free_in, seats_of}
use Rattle.ring_room.specs.Places.{id_at}
use Rattle.ring_room.proofs.Searching.OpenDevices.{listed_free}
use Rattle.ring_room.proofs.Searching.FreeOutside.{none_listed}
use Rattle.ring_room.proofs.Searching.LessCrowded.{none_free, one_free}
use Rattle.ring_room.proofs.Searching.RoomyPlaces.{first_listed}
use Rattle.ring_room.proofs.rooms.Room.has_room_outside.Goals as goal

pub returns-then-not-contains : goal.returns-then-not-contains
returns-then-not-contains c =
    let now = c.args.self.now in
    let others = c.args.others.now in
    let items = take c.self.inside.count c.deref.result.now in
    let i = c.loop-place.place-index in
    let are = first_listed _ now c.self.inside.roomy.items c.deref.result.now c.self.inside.count
    c.self.view_is c.deref.ensures.value c.self.invariant.listed in
    let free = listed_free _ now c.self.view_is items are others i c.index.result.now
    c.contains.result c.loop-place-test.true c.index.ensures c.contains.ensures.value in
    sym (one_free now (seats_of others) (id_at now.devices (get_or items i 0))
    (sym free ∙ ap not c.if-not-contains.true))

pub loop-place-preserved : goal.loop-place-preserved
loop-place-preserved c =
    let now = c.args.self.now in
    let others = c.args.others.now in
    let items = take c.self.inside.count c.deref.result.now in
    let i = c.loop-place.place-index in
    let are = first_listed _ now c.self.inside.roomy.items c.deref.result.now c.self.inside.count
    c.self.view_is c.deref.ensures.value c.self.invariant.listed in
    let free = listed_free _ now c.self.view_is items are others i c.index.result.now
    c.contains.result c.loop-place-test.true c.index.ensures c.contains.ensures.value in
    below_more (λ k. is_free_in now (seats_of others) (id_at now.devices (get_or items k 0)) ≡
    false) i c.loop-place.invariant (sym free ∙ ap not c.if-not-contains.false)

pub returns : goal.returns
returns c =
    let now = c.args.self.now in
    let items = take c.self.inside.count c.deref.result.now in
    let are = first_listed _ now c.self.inside.roomy.items c.deref.result.now c.self.inside.count
    c.self.view_is c.deref.ensures.value c.self.invariant.listed in
    sym (none_free now (seats_of c.args.others.now) (none_listed now (seats_of c.args.others.now)
    items are (λ k lt. c.loop-place.invariant k (omega (arith, lt, c.loop-place-test.false)))))
