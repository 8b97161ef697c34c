use Rattle.std.proofs.Common.{◌≡◌, ◌∙◌, ◌==◌, false, ap, sym, ⊎_elim, None, Some}
use Rattle.std.specs.List.{list_any}
use Rattle.std.proofs.lemmas.Bool.{and_left, cases_Bool}
use Rattle.std.proofs.lemmas.List.Folds.{list_any_at}
use Rattle.std.proofs.lemmas.Option.{get_or_from_slice_get, slice_get_within}
use Rattle.ring_room.specs.Free.{has_free_in}
use Rattle.ring_room.specs.Load.{want_in}
use Rattle.ring_place.specs.Inner.Gathering.{is_idle_in}
use Rattle.ring_place.proofs.surplus.may_leave.Goals as goal

pub returns-else-not-is_calm : goal.returns-else-not-is_calm
returns-else-not-is_calm c none replica id at =
    let was = c.args.was.now in
    let row = c.args.row.now in
    let without : list_any (is_idle_in was) row ≡ false = sym c.has_idle.ensures ∙ none in
    let wants : (want_in was id == 0) ≡ false = ⊎_elim
    (λ idle. absurd (let some = list_any_at (is_idle_in was) row replica None
    (slice_get_within row replica (Some id) at)
    (ap (is_idle_in was) (get_or_from_slice_get row replica (Some id) None at) ∙ idle) in
    cc (some, without)))
    (λ not_idle. not_idle)
    (cases_Bool (want_in was id == 0)) in (
      and_left (want_in was id == 0) (has_free_in was row) wants,
      c.is_calm.ensures c.if-not-is_calm.false replica id at,
    )
