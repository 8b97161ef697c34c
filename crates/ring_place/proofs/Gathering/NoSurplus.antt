-- Where no device keeps more than it wants a pass after the first lifts nothing.
use Rattle.std.proofs.Common.{◌≡◌, ◌≢◌, ◌∙◌, ℕ, ◌<◌, ◌≤◌, Bool, true, false, List, length, Option}
use Rattle.std.proofs.Common.{ap, sym, refl, ⊎_elim, arith}
use Rattle.std.specs.Prelude.{nat_lt, slice_index_or}
use Rattle.std.proofs.lemmas.Bool.{cases_Bool}
use Rattle.std.proofs.lemmas.Bool.Decides.{nat_tests}
use Rattle.std.proofs.lemmas.Option.{slice_get_within}
use Rattle.ring_model.specs.Ring.{has_device}
use Rattle.ring_share.proofs.Rows.{some_below}
use Rattle.ring_share.proofs.Standing.{found_device}
use Rattle.ring_room.specs.Load.{Load, have_in, want_in}
use Rattle.ring_room.proofs.Searching.DevicesAt.{id_stands}
use Rattle.ring_place.specs.declared.gather.Pass.{Pass}
use Rattle.ring_place.specs.declared.gather.Pass.TheVariants.{First, Apart, Beside, Second}
use Rattle.ring_place.specs.Inner.Gathering.{AreRowsOfSeats, IsFilled, IsPass, MustStay}
use Rattle.ring_deal.specs.Inner.Orders.{is_among}
use Rattle.ring_place.specs.Made.{has_surplus, is_over_at, row_at}
use Rattle.ring_place.proofs.Gathering.LaterPasses.{later_rests}

-- no device that is known keeps more
none_over : (kept : Load) (id : ℕ) → has_surplus kept ≡ false →
    has_device id kept.devices ≡ true → have_in kept id ≤ want_in kept id
none_over kept id none known =
    let found = found_device kept.devices id known in
    let within = slice_get_within kept.devices found.place found.stands.device found.stands.at in
    let is = id_stands kept.devices id found.place found.stands in
    ⊎_elim
    (λ over. absurd (let some = some_below (is_over_at kept) (length kept.devices) found.place within
    over in cc (some, none)))
    (λ never. not_over (want_in kept id) (have_in kept id)
    (ap (λ n. nat_lt (want_in kept n) (have_in kept n)) (sym is) ∙ never))
    (cases_Bool (is_over_at kept found.place))
  where
    not_over : (want have : ℕ) → nat_lt want have ≡ false → have ≤ want
    not_over want have never = grind (arith, nat_tests)

-- so no seat may leave
pub must_stay : (pass : Pass) (was kept : Load) (row : List (Option ℕ)) (replica id : ℕ) → pass ≢ First →
    have_in kept id ≤ want_in kept id → MustStay pass was kept row replica id
must_stay First was kept row replica id later few = absurd (later refl)
must_stay Apart was kept row replica id later few =
    λ over to free. absurd (omega (arith, few, over))
must_stay (Beside most) was kept row replica id later few = tt
must_stay Second was kept row replica id later few = few

pub no_surplus : (pass : Pass) (done : List ℕ) (was kept : Load) (locked : List Bool)
    (rows : List (List (Option ℕ))) → pass ≢ First → has_surplus kept ≡ false →
    AreRowsOfSeats was.devices rows → ((p : ℕ) → is_among done p ≡ true → p < length rows)
    → IsFilled kept was.devices was.wanted rows → IsPass pass done was kept locked rows rows
no_surplus pass done was kept locked rows later none are inside filled = record {
  as_many = refl;
  rest = λ p missing. refl;
  lifted = λ p among. later_rests pass was kept (slice_index_or locked p false) (row_at rows p)
      (row_at rows p) later refl (λ full unlocked free replica id at.
      must_stay pass was kept (row_at rows p) replica id later (none_over kept id none
      (ap (has_device id) filled.devices_are ∙ are.known p (inside p among) replica id at)));
  filled = filled;
}
