use Rattle.std.proofs.Common.{◌≡◌, ◌∙◌, ◌<◌, ◌==◌, ◌&&◌, All, Bool, List, ℕ, map, not, length, ap, Some, sym}
use Rattle.std.specs.List.{list_any}
use Rattle.std.specs.List.Sorted.{IsStrictlyIncreasing}
use Rattle.std.specs.Prelude.{slice_get}
use Rattle.ring_words.specs.declared.device.Device.{Device}
use Rattle.ring_room.specs.Places.{seats_at}
use Rattle.ring_room.specs.Search.{is_open_outside}
use Rattle.ring_share.specs.Want.{is_open}
use Rattle.ring_room.proofs.Searching.ByName.{open_outside_at}
use Rattle.ring_room.proofs.Searching.DevicesAt.{is_load, read_in}
use Rattle.ring_room.proofs.rooms.Room.is_open_outside.Goals as goal

-- the answer where it is known whether the device is open
told : (devices : List Device) → IsStrictlyIncreasing (map (λ device. device.id) devices)
    → (others : List ℕ) → All (λ other. other < length devices) others → (place : ℕ) (x : Device)
    → place < length devices → slice_get devices place ≡ Some x → (b : Bool) → is_open x ≡ b
    → (b && not (list_any (λ other. other == place) others)) ≡ is_open_outside devices
    (seats_at devices others) place
told devices rise others all place x lt at b is =
    sym (open_outside_at devices rise others all place x lt at
    ∙ ap (λ b. b && not (list_any (λ other. other == place) others)) is)

pub returns-then-is_open : goal.returns-then-is_open
returns-then-is_open c =
    let now = c.args.self.now in
    let place = c.args.place in
    let x = c.index.result.now in
    ap not c.contains.ensures.value
    ∙ ap (λ b. b && not (list_any (λ other. other == place) c.args.others.now)) (sym c.if-is_open.true)
    ∙ told now.devices (is_load _ now c.self.view_is c.self.invariant.counted).rise c.args.others.now
    c.requires.others place x c.requires.place
    (read_in _ now c.self.view_is place x c.requires.place c.index.ensures) c.is_open.result
    (sym c.is_open.ensures)

pub returns-else-is_open : goal.returns-else-is_open
returns-else-is_open c =
    let now = c.args.self.now in
    let place = c.args.place in
    let x = c.index.result.now in
    c.if-is_open.false
    ∙ ap (λ b. b && not (list_any (λ other. other == place) c.args.others.now)) (sym c.if-is_open.false)
    ∙ told now.devices (is_load _ now c.self.view_is c.self.invariant.counted).rise c.args.others.now
    c.requires.others place x c.requires.place
    (read_in _ now c.self.view_is place x c.requires.place c.index.ensures) c.is_open.result
    (sym c.is_open.ensures)
