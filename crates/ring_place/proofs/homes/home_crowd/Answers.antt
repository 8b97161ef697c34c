use Rattle.std.proofs.Common.{◌≡◌, ◌∙◌, ℕ, IfSome, Some, ap, subst, sym, true}
use Rattle.std.specs.Option.{option_map}
use Rattle.ring_model.specs.Ring.{has_device}
use Rattle.ring_room.specs.Load.{crowd_in, seats_of}
use Rattle.ring_room.specs.Places.{id_at}
use Rattle.ring_room.specs.Rows.{devices_on}
use Rattle.ring_place.specs.Made.{crowd_number, first_empty}
use Rattle.ring_place.proofs.Placing.Homes.{home_known}
use Rattle.ring_place.proofs.homes.home_crowd.Goals as goal

pub place_of-requires : goal.place_of-requires
place_of-requires c =
    let devices = c.args.room.now.devices in
    subst (λ home. IfSome home (λ id. has_device id devices ≡ true))
    (sym c.home_of.ensures ∙ c.in_ok-home.was)
    (home_known devices c.args.old.now (first_empty c.args.row.now) c.requires.old)

pub returns : goal.returns
returns c =
    let room = c.args.room.now in
    let seats = seats_of (devices_on c.args.row.now) in
    let number = λ (id : ℕ). crowd_number (crowd_in room seats id) in
    ap Some (c.crowd_number.ensures ∙ ap crowd_number (c.crowd_at-crowd.ensures
    ∙ ap (λ row. crowd_in room row (id_at room.devices c.place_of.result))
    c.places_on-count.ensures.by_name
    ∙ ap (crowd_in room seats) c.place_of.ensures.number))
    ∙ ap (option_map number) (sym c.in_ok-home.was ∙ c.home_of.ensures)
