use Rattle.std.proofs.Common.{ℕ, List, Option, length, sum_by, sym, ap, subst, ◌∙◌, arith}
use Rattle.std.specs.List.{range_with_len}
use Rattle.ring_model.specs.Valid.{IsValid}
use Rattle.ring_share.specs.Crowd.{rows_of}
use Rattle.ring_place.specs.Inner.Finishing.{AreAlike}
use Rattle.ring_place.specs.Made.{changed_in}
use Rattle.ring_place.specs.Rebalance.{IsAfter, changed_seats}
use Rattle.ring_place.specs.Made.{row_at}
use Rattle.ring_place.proofs.Finishing.FinishedRing.{alike, count_rows, is_made, made_after}
use Rattle.ring_place.proofs.Finishing.FinishedRing.{made_changed, made_valid, rows_same}
use Rattle.std.specs.Prelude.{filter, not}
use Rattle.std.specs.List.{flat_map}
use Rattle.ring_words.specs.declared.device.Device.{Device}
use Rattle.ring_model.specs.Reseat.{reseated}
use Rattle.ring_place.specs.Made.{stamps}
use Rattle.ring_room.specs.Rows.{devices_on}
use Rattle.ring_place.proofs.rebalances.finish.Goals as goal

pub moves-requires-clause-partitions : goal.moves-requires-clause-partitions
moves-requires-clause-partitions c =
    let old = ap length c.requires.old in
    let moved = c.requires.valid.moved in
    omega (arith, old, moved, count_rows c.args.ring.now)

pub moves-requires-clause-alike : goal.moves-requires-clause-alike
moves-requires-clause-alike c = subst (λ rows. AreAlike rows c.args.new.now) (sym c.requires.old)
    (alike c.args.ring.now c.args.new.now c.requires.valid c.requires.new)

pub reseated-requires : goal.reseated-requires
reseated-requires c =
    let made = is_made c.args.ring.now c.args.hour c.args.old.now c.args.new.now
    c.devices.result.now c.in_ok-devices.devices.items c.in_ok-seats.seats.items
    c.in_ok-moved.moved.items c.requires.old c.devices.ensures.value c.in_ok-devices.ensures
    c.in_ok-seats.ensures c.in_ok-moved.ensures.moved in
    made_valid c.args.ring.now c.args.hour c.args.new.now _ c.requires.valid c.requires.new made
    (omega arith)

pub returns-clause-rows : goal.returns-clause-rows
returns-clause-rows c =
    let made = is_made c.args.ring.now c.args.hour c.args.old.now c.args.new.now
    c.devices.result.now c.in_ok-devices.devices.items c.in_ok-seats.seats.items
    c.in_ok-moved.moved.items c.requires.old c.devices.ensures.value c.in_ok-devices.ensures
    c.in_ok-seats.ensures c.in_ok-moved.ensures.moved in
    ap rows_of c.in_ok-ring.ensures ∙ rows_same c.args.ring.now c.args.hour c.args.new.now _
    c.requires.valid c.requires.new made

pub returns-clause-after : goal.returns-clause-after
returns-clause-after c =
    let made = is_made c.args.ring.now c.args.hour c.args.old.now c.args.new.now
    c.devices.result.now c.in_ok-devices.devices.items c.in_ok-seats.seats.items
    c.in_ok-moved.moved.items c.requires.old c.devices.ensures.value c.in_ok-devices.ensures
    c.in_ok-seats.ensures c.in_ok-moved.ensures.moved in
    subst (λ r. IsAfter c.args.ring.now c.args.hour r) (sym c.in_ok-ring.ensures)
    (made_after c.args.ring.now c.args.hour c.args.new.now _ c.requires.valid c.requires.new
    made)

pub returns-clause-valid : goal.returns-clause-valid
returns-clause-valid c =
    let made = is_made c.args.ring.now c.args.hour c.args.old.now c.args.new.now
    c.devices.result.now c.in_ok-devices.devices.items c.in_ok-seats.seats.items
    c.in_ok-moved.moved.items c.requires.old c.devices.ensures.value c.in_ok-devices.ensures
    c.in_ok-seats.ensures c.in_ok-moved.ensures.moved in
    subst IsValid (sym c.in_ok-ring.ensures)
    (made_valid c.args.ring.now c.args.hour c.args.new.now _ c.requires.valid c.requires.new made
    (omega arith))

pub returns-clause-changed : goal.returns-clause-changed
returns-clause-changed c =
    let made = is_made c.args.ring.now c.args.hour c.args.old.now c.args.new.now
    c.devices.result.now c.in_ok-devices.devices.items c.in_ok-seats.seats.items
    c.in_ok-moved.moved.items c.requires.old c.devices.ensures.value c.in_ok-devices.ensures
    c.in_ok-seats.ensures c.in_ok-moved.ensures.moved in
    c.in_ok-moved.ensures.changed
    ∙ ap (λ (before : List (List (Option ℕ))). sum_by (λ partition. changed_in
    (row_at before partition) (row_at c.args.new.now partition))
    (range_with_len 0 (length before))) c.requires.old
    ∙ made_changed c.args.ring.now c.args.hour c.args.new.now _ c.requires.valid c.requires.new made
    ∙ ap (changed_seats c.args.ring.now) (sym c.in_ok-ring.ensures)

pub returns-clause-by_name : goal.returns-clause-by_name
returns-clause-by_name c =
    let ring = c.args.ring.now in
    let left = λ (ds : List Device). filter (λ (device : Device). not device.removed) ds in
    c.in_ok-ring.ensures
    ∙ ap (λ ds. reseated ring ds c.in_ok-seats.seats.items c.in_ok-moved.moved.items)
    (c.in_ok-devices.ensures ∙ ap left c.devices.ensures.value)
    ∙ ap (λ ss. reseated ring (left ring.devices) ss c.in_ok-moved.moved.items) c.in_ok-seats.ensures
    ∙ ap (λ ms. reseated ring (left ring.devices) (flat_map devices_on c.args.new.now) ms)
    (c.in_ok-moved.ensures.moved ∙ ap (λ old. stamps c.args.hour ring.moved old c.args.new.now) c.requires.old)
