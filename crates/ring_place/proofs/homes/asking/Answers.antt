use Rattle.std.proofs.Common.{◌∙◌, ℕ}
use Rattle.ring_place.specs.Made.{home_crowd, row_at}
use Rattle.ring_place.proofs.Placing.Homes.{if_ok_told}
use Rattle.ring_place.proofs.homes.asking.Goals as goal

pub returns : goal.returns
returns c =
    let number = λ (p : ℕ). home_crowd c.args.room.now
    (row_at c.args.old.now p) (row_at c.args.seats.now p) in
    if_ok_told number c.args.waiting.now c.deref.result.now c.by_number.result
    (c.deref.ensures.value ∙ c.in_ok-crowds.ensures) c.by_number.ensures
