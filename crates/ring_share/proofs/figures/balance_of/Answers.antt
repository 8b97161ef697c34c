use Rattle.std.proofs.Common.{◌≡◌, ◌==◌, ◌∙◌, Bool, false, List, [], ◌∷◌, None, Some, refl, ap, sym}
use Rattle.std.specs.List.{find, list_any}
use Rattle.std.specs.Option.{option_map}
use Rattle.std.proofs.lemmas.Bool.{or_parts}
use Rattle.ring_words.specs.declared.device.Device.{Device}
use Rattle.ring_share.specs.Crowd.{device_by_id}
use Rattle.ring_share.specs.Figures.{device_balance}
use Rattle.ring_share.specs.Room.{have}
use Rattle.ring_share.proofs.figures.balance_of.Goals as goal

none_found : {X : Type 0} (test : X → Bool) (xs : List X) → list_any test xs ≡ false →
    find test xs ≡ None
none_found test [] none = refl
none_found test (x ∷ xs) none =
    let parts = or_parts (test x) (list_any test xs) none in
    rw parts.0 (none_found test xs parts.1)

pub returns-then-not-has_device : goal.returns-then-not-has_device
returns-then-not-has_device c = sym (ap (option_map (device_balance c.args.ring.now))
    (none_found (λ (device : Device). device.id == c.args.device) c.args.ring.now.devices
    (sym c.has_device.ensures ∙ c.if-not-has_device.true)))

pub balance_with-requires : goal.balance_with-requires
balance_with-requires c = c.have.ensures.value ∙ ap (have c.args.ring.now) (sym
    c.device_of-found.ensures.named)

pub returns : goal.returns
returns c =
    let found = ap (device_by_id c.args.device) (sym c.devices.ensures.value) ∙
    c.device_of-found.ensures.found in
    ap Some c.balance_with.ensures ∙ sym (ap (option_map (device_balance c.args.ring.now)) found)
