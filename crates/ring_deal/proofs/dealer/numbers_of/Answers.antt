use Rattle.std.proofs.Common.{◌≡◌, ◌<◌, ℕ, List, ap, arith, get_or, length, sym, ◌∙◌}
use Rattle.std.proofs.lemmas.Option.{slice_get-get_or}
use Rattle.ring_words.specs.declared.device.Device.{Device}
use Rattle.ring_room.specs.Places.{id_at, number_of}
use Rattle.ring_deal.proofs.Lists.{map_take_more}
use Rattle.ring_deal.proofs.dealer.numbers_of.Goals as goal

id_there : (devices : List Device) (place same : ℕ) (device : Device) → place < length devices →
    place ≡ same → (get_or devices place device).id ≡ id_at devices same
id_there devices place same device lt is =
    ap number_of (sym (slice_get-get_or devices place device lt)) ∙ ap (id_at devices) is

pub loop-place-preserved : goal.loop-place-preserved
loop-place-preserved c = map_take_more (id_at c.args.devices.now) c.args.places.now
    c.loop-place.place-index c.loop-place.ids.items c.push.new.self.items _ (omega arith)
    c.loop-place.invariant c.in_ok-push.ensures.items
    (id_there c.args.devices.now c.from.result _ _ (let below = c.requires c.loop-place.place-index 0
    (omega arith) in omega (arith, below)) (omega arith))
