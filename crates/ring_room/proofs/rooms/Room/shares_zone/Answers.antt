use Rattle.std.proofs.Common.{◌≡◌, ◌==◌, ℕ, Bool, true, false, refl}
use Rattle.std.specs.Prelude.{if◌then◌else◌}
use Rattle.ring_room.proofs.rooms.Room.shares_zone.Goals as goal

-- One where it holds and else none tells whether it holds.
one_if : (b : Bool) (n : ℕ) → n ≡ (if b then 1 else 0) → (n == 1) ≡ b
one_if true n is = rw is refl
one_if false n is = rw is refl

pub returns : goal.returns
returns c = one_if _ _ c.shares_at.ensures.zone
