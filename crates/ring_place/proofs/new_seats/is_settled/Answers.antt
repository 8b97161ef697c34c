use Rattle.std.proofs.Common.{◌≡◌, ◌∙◌, ap, not, refl, false, true}
use Rattle.std.specs.List.{list_any}
use Rattle.ring_words.specs.declared.device.Device.{Device}
use Rattle.ring_place.proofs.Finishing.SettledRing.{settled_by}
use Rattle.ring_place.proofs.new_seats.is_settled.Goals as goal

pub returns-clause-by_name : goal.returns-clause-by_name
returns-clause-by_name c = settled_by c.args.ring.now c.args.was.now c.requires c.has_some_room.result
    c.is_assigned.result c.has_removed.result c.has_some_room.ensures.by_name c.is_assigned.ensures.value
    (c.has_removed.ensures ∙ ap (list_any (λ (device : Device). device.removed)) c.devices.ensures.value)
    c.if-not-is_assigned.false c.if-has_removed.false

pub returns-clause-full : goal.returns-clause-full
returns-clause-full c none = c.has_some_room.ensures.none (turned c.has_some_room.result none)
  where
    turned : (b : _) → not b ≡ true → b ≡ false
    turned true is = absurd (cc is)
    turned false is = refl
