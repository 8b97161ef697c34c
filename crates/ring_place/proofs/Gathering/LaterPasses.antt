-- What a pass after the first lifts of a partition, whichever pass it is.
use Rattle.std.proofs.Common.{◌≡◌, ◌≢◌, ℕ, ◌<◌, ◌≤◌, Bool, true, false, List, Option, Some, refl}
use Rattle.std.specs.Prelude.{slice_get}
use Rattle.std.specs.List.{list_any}
use Rattle.ring_room.specs.Free.{has_free_in}
use Rattle.ring_room.specs.Load.{Load, have_in, want_in}
use Rattle.ring_room.specs.Rows.{is_empty}
use Rattle.ring_place.specs.declared.gather.Pass.{Pass}
use Rattle.ring_place.specs.declared.gather.Pass.TheVariants.{First, Apart, Beside, Second}
use Rattle.ring_place.specs.Inner.Gathering.{Gives, Goes, Holds, IsLater, IsLifting, Lifts}
use Rattle.ring_place.specs.Inner.Gathering.{MayBeLifted, MustStay, Rests, Same, Surplus}

-- its device keeps more than it wants
pub keeps_more : (pass : Pass) (was kept : Load) (row : List (Option ℕ)) (replica id : ℕ) →
    pass ≢ First → MayBeLifted pass was kept row replica id → want_in kept id < have_in kept id
keeps_more First was kept row replica id later may = absurd (later refl)
keeps_more Apart was kept row replica id later may = may.0
keeps_more (Beside most) was kept row replica id later may = may
keeps_more Second was kept row replica id later may = may

-- a seat that may leave is lifted
pub later_lifts : (pass : Pass) (was kept taken : Load) (locked : Bool) (old row : List (Option ℕ))
    (replica id : ℕ) → pass ≢ First → list_any is_empty old ≡ false → locked ≡ false →
    has_free_in was old ≡ true → Lifts old row replica id →
    MayBeLifted pass was kept old replica id → want_in taken id ≤ have_in taken id →
    IsLifting pass was taken locked old row
later_lifts First was kept taken locked old row replica id later full unlocked free lifts may still =
    absurd (later refl)
later_lifts Apart was kept taken locked old row replica id later full unlocked free lifts may still =
    Goes full unlocked replica id lifts free may.1 still
later_lifts (Beside most) was kept taken locked old row replica id later full unlocked free lifts
    may still = Gives full unlocked replica id lifts free still
later_lifts Second was kept taken locked old row replica id later full unlocked free lifts may
    still = Surplus full unlocked replica id lifts free still

-- or all stay
pub later_rests : (pass : Pass) (was kept : Load) (locked : Bool) (old row : List (Option ℕ)) →
    pass ≢ First → row ≡ old → (list_any is_empty old ≡ false → locked ≡ false →
    has_free_in was old ≡ true → (replica id : ℕ) → slice_get old replica ≡ Some (Some id) →
    MustStay pass was kept old replica id) → IsLifting pass was kept locked old row
later_rests First was kept locked old row later same stay = absurd (later refl)
later_rests Apart was kept locked old row later same stay = Rests same stay
later_rests (Beside most) was kept locked old row later same stay = Holds same
later_rests Second was kept locked old row later same stay = Same same stay

-- what it lifts, any pass after the first may lift
pub later_only : (pass : Pass) (was kept : Load) (locked : Bool) (old row : List (Option ℕ)) →
    pass ≢ First → IsLifting pass was kept locked old row → IsLater was kept locked old row
later_only First was kept locked old row later is = absurd (later refl)
later_only Apart was kept locked old row later (Goes full unlocked replica id lifts free goes keeps)
    = Gives full unlocked replica id lifts free keeps
later_only Apart was kept locked old row later (Rests same rest) = Holds same
later_only (Beside most) was kept locked old row later is = is
later_only Second was kept locked old row later (Surplus full unlocked replica id lifts free keeps) =
    Gives full unlocked replica id lifts free keeps
later_only Second was kept locked old row later (Same same rest) = Holds same
