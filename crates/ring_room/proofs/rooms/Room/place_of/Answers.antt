use Rattle.std.proofs.Common.{◌≡◌, ap, sym, subst, map, ◌∙◌}
use Rattle.std.specs.List.Sorted.{IsStrictlyIncreasing}
use Rattle.ring_share.specs.Room.{place_of}
use Rattle.ring_room.proofs.Searching.DevicesAt.{place_stands}
use Rattle.ring_room.proofs.rooms.Room.place_of.Goals as goal

pub returns-clause-value : goal.returns-clause-value
returns-clause-value c =
    let devices : c.deref.result.now ≡ c.args.self.now.devices =
    c.deref.ensures.value ∙ ap (λ load. load.devices) c.self.view_is in
    let rise = subst (λ d. IsStrictlyIncreasing (map (λ device. device.id) d))
    (sym c.deref.ensures.value) c.self.invariant.counted.rise in
    sym (ap (place_of c.args.id) (sym devices) ∙ place_stands c.deref.result.now rise c.args.id
    c.place_in.result c.place_in.ensures.stands)
