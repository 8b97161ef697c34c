use Rattle.std.proofs.Common.{◌≡◌, All, List, Some, true, false, map, take, refl, sym, ap, subst}
use Rattle.std.proofs.Common.{◌∙◌}
use Rattle.std.proofs.lemmas.List.{length-take-le}
use Rattle.ring_model.specs.Ring.{has_device}
use Rattle.ring_words.specs.declared.device.Device.{Device}
use Rattle.ring_share.specs.Figures.{has_crowded}
use Rattle.ring_room.specs.Load.{Load}
use Rattle.ring_room.proofs.Searching.DevicesAt.{is_load}
use Rattle.ring_room.proofs.Searching.CalmPartitions.{calm_apart, calm_full, full_row}
use Rattle.ring_room.proofs.Searching.RoomyPlaces.{first_listed}
use Rattle.ring_room.proofs.Searching.FreeOutside.{none_roomy}
use Rattle.ring_room.proofs.Searching.RowDevices.{known_taken}
use Rattle.ring_room.proofs.rooms.Room.is_calm.Goals as goal

pub stand_apart-requires-clause-known : goal.stand_apart-requires-clause-known
stand_apart-requires-clause-known c =
    let now = c.args.self.now in
    let ids = take c.devices_on-count.result.1 c.devices_on-count.result.0 in
    let devices : c.deref.result.now ≡ now.devices =
    c.deref.ensures.value ∙ ap (λ (l : Load). l.devices) c.self.view_is in
    subst (λ (ds : List Device). All (λ id. has_device id ds ≡ true) ids) (sym devices)
    (subst (λ xs. All (λ id. has_device id now.devices ≡ true) xs)
    (sym c.devices_on-count.ensures.devices) (known_taken now.devices c.args.row.now
    c.requires.row))

pub returns-then-self-eq0 : goal.returns-then-self-eq0
returns-then-self-eq0 c full =
    let inside = c.self.inside in
    let now = c.args.self.now in
    let listed = first_listed _ now inside.roomy.items inside.roomy.items inside.count
    c.self.view_is refl c.self.invariant.listed in
    let long = length-take-le inside.count inside.roomy.items c.self.invariant.few in
    calm_full now c.args.row.now (none_roomy now c.args.row.now
    (take inside.count inside.roomy.items) listed (long ∙ c.if-self-eq0.true))

pub returns : goal.returns
returns c apart =
    let now = c.args.self.now in
    let row = c.args.row.now in
    let devices : c.deref.result.now ≡ now.devices =
    c.deref.ensures.value ∙ ap (λ (l : Load). l.devices) c.self.view_is in
    calm_apart now (is_load _ now c.self.view_is c.self.invariant.counted) row
    (subst (λ r. has_crowded now.devices r ≡ false)
    (ap (map Some) c.devices_on-count.ensures.devices ∙ full_row row c.requires.full)
    (subst (λ (ds : List Device). has_crowded ds
    (map Some (take c.devices_on-count.result.1 c.devices_on-count.result.0)) ≡ false) devices
    (c.stand_apart.ensures apart)))
