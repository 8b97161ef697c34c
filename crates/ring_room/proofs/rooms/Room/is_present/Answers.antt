use Rattle.std.proofs.Common.{◌≡◌, All, false, subst, sym}
use Rattle.ring_room.specs.Load.{Load}
use Rattle.ring_room.proofs.Searching.DevicesAt.{all_present, present_in}
use Rattle.ring_room.proofs.rooms.Room.is_present.Goals as goal

pub returns : goal.returns
returns c = present_in _ c.args.self.now c.self.view_is c.self.invariant.counted c.place_of.result
    c.args.device c.index.result.now c.place_of.ensures.within c.index.ensures
    c.place_of.ensures.number

pub returns-then-self : goal.returns-then-self
returns-then-self c = sym (all_present c.args.self.now.devices c.args.device
    (subst (λ (l : Load). All (λ device. device.removed ≡ false) l.devices) c.self.view_is
    (c.self.invariant.present c.if-self.true)) c.requires)
