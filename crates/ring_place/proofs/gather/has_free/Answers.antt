use Rattle.std.proofs.Common.{List, ℕ, ap, ◌∙◌}
use Rattle.ring_room.specs.Free.{has_free_in}
use Rattle.ring_room.specs.Load.{is_free_in, seats_of}
use Rattle.ring_room.specs.Rows.{devices_on}
use Rattle.ring_room.proofs.Searching.LessCrowded.{list_any_agree}
use Rattle.ring_room.proofs.Searching.RowDevices.{free_taken}
use Rattle.ring_place.proofs.gather.has_free.Goals as goal

pub returns : goal.returns
returns c =
    let room = c.args.room.now in
    let row = c.args.row.now in
    c.has_room_outside.ensures ∙ ap (λ (ids : List ℕ). has_free_in room (seats_of ids))
    c.devices_on-count.ensures.devices
    ∙ list_any_agree (λ device. is_free_in room (seats_of (devices_on row)) device.id)
    (λ device. is_free_in room row device.id) (λ device. free_taken room row device.id)
    room.devices
