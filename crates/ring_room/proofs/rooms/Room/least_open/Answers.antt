use Rattle.std.proofs.Common.{◌≡◌, ◌∙◌, ◌<◌, ◌==◌, ◌&&◌, ℕ, None, not, length, ap, arith, false, subst, sym}
use Rattle.std.specs.List.{list_any}
use Rattle.std.specs.Prelude.{IfNone}
use Rattle.std.proofs.lemmas.Option.{get_or_from_slice_get}
use Rattle.ring_share.specs.Want.{is_open}
use Rattle.ring_room.specs.Load.{Load}
use Rattle.ring_room.specs.Places.{seats_at}
use Rattle.ring_room.specs.Search.{better_open, is_open_outside}
use Rattle.ring_room.proofs.Steps.{steps_more}
use Rattle.ring_room.proofs.Searching.ByName.{none_more, open_outside_at}
use Rattle.ring_room.proofs.Searching.DevicesAt.{is_load}
use Rattle.ring_room.proofs.Searching.FreeOutside.{device_there}
use Rattle.ring_room.proofs.Searching.OpenDevices.{open_places}
use Rattle.ring_room.proofs.rooms.Room.least_open.Goals as goal

pub loop-place-preserved : goal.loop-place-preserved
loop-place-preserved c =
    let now = c.args.self.now in
    let row = seats_at now.devices c.args.others.now in
    let place = c.loop-place.place in
    record {
      by_name = steps_more (better_open now row) place None c.loop-place.best
          c.better_open-best.result c.loop-place.invariant.by_name c.better_open-best.ensures.by_name;
      opens = c.better_open-best.ensures.opens;
      none = none_more (is_open_outside now.devices row) c.loop-place.best
          c.better_open-best.result place c.loop-place.invariant.none c.better_open-best.ensures.none;
    }

pub prove-unreachable-requires : goal.prove-unreachable-requires
prove-unreachable-requires c =
    let now = c.args.self.now in
    let others = c.args.others.now in
    let row = seats_at now.devices others in
    let rise = (is_load _ now c.self.view_is c.self.invariant.counted).rise in
    let long = ap (λ (l : Load). length l.devices) c.self.view_is in
    let none = subst (λ best. IfNone best ((k : ℕ) → k < c.loop-place.place →
    is_open_outside now.devices row k ≡ false)) c.in_default.is c.loop-place.invariant.none in
    let few = open_places now.devices others rise c.requires.others
    (λ k x lt.
    let there = device_there now.devices k lt in
    ap (λ d. is_open d && not (list_any (λ other. other == k) others))
    (get_or_from_slice_get now.devices k there.0 x there.1)
    ∙ sym (open_outside_at now.devices rise others c.requires.others k there.0 lt there.1)
    ∙ none k (omega (arith, lt, long, c.loop-place-test.false, c.len-place-end.ensures))) in
    omega (arith, few, c.requires.fewer)
