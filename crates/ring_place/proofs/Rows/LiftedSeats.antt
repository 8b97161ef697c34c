-- What holds of a row of which seats are lifted.
use Rattle.std.proofs.Common.{◌≡◌, ℕ, zero, suc, ◌<◌, true, false, List, [], ◌∷◌, length, get_or}
use Rattle.std.proofs.Common.{set, Option, Some, None, refl, sym, ap, ◌∙◌, ⊎_elim, arith}
use Rattle.std.specs.Prelude.{slice_get}
use Rattle.std.proofs.lemmas.Bool.{cases_eq}
use Rattle.std.proofs.lemmas.Option.{same_Some, slice_get-get_or}
use Rattle.ring_model.specs.Ring.{has_present}
use Rattle.ring_words.specs.declared.device.Device.{Device}
use Rattle.ring_room.specs.Rows.{AreKnown}
use Rattle.ring_place.specs.Inner.Gathering.{present_only}
use Rattle.ring_place.proofs.Rows.OneWrite.{get_set_other}

pub seat_at : (row : List (Option ℕ)) (replica : ℕ) (seat : Option ℕ) → replica < length row →
    get_or row replica None ≡ seat → slice_get row replica ≡ Some seat
seat_at row replica seat within is = slice_get-get_or row replica None within ∙ ap Some is

-- a seat is on one device
pub same_device : (row : List (Option ℕ)) (replica one other : ℕ) →
    slice_get row replica ≡ Some (Some one) → slice_get row replica ≡ Some (Some other) →
    one ≡ other
same_device row replica one other at here = same_Some one other (same_Some (Some one) (Some other)
    (sym at ∙ here))

-- a lifted row is on known devices
pub known_lifted : (devices : List Device) (row : List (Option ℕ)) (replica : ℕ) →
    AreKnown devices row → AreKnown devices (set row replica None)
known_lifted devices row replica known k id at = ⊎_elim
    (λ same. absurd (emptied row replica k id same at))
    (λ other. known k id (sym (get_set_other row replica k None other) ∙ at))
    (cases_eq replica k)
  where
    emptied : (row : List (Option ℕ)) (replica k id : ℕ) → replica ≡ k →
        slice_get (set row replica None) k ≡ Some (Some id) → ⊥
    emptied [] replica k id same at = cc at
    emptied (x ∷ row) zero zero id same at = cc at
    emptied (x ∷ row) zero (suc k) id same at = absurd (omega (arith, same))
    emptied (x ∷ row) (suc replica) zero id same at = absurd (omega (arith, same))
    emptied (x ∷ row) (suc replica) (suc k) id same at =
        emptied row replica k id (omega (arith, same)) at

pub kept_present : (devices : List Device) (id : ℕ) → has_present id devices ≡ true →
    present_only devices (Some id) ≡ Some id
kept_present devices id h = rw h refl

pub lost_absent : (devices : List Device) (id : ℕ) → has_present id devices ≡ false →
    present_only devices (Some id) ≡ None
lost_absent devices id h = rw h refl
