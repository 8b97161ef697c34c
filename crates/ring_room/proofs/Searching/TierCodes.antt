-- Devices at places share a tier where their numbers of it are one.
use Rattle.std.proofs.Common.{◌≡◌, ◌==◌, ◌∙◌, ℕ, ◌<◌, Bool, true, false, List, length, get_or}
use Rattle.std.proofs.Common.{map, refl, sym, ap, subst}
use Rattle.std.specs.Prelude.{if◌then◌else◌}
use mir.Val.{bool_byte}
use Rattle.std.specs.List.Sorted.{IsStrictlyIncreasing}
use Rattle.ring_words.specs.declared.device.Device.{Device}
use Rattle.ring_share.specs.Codes.{AreCodes}
use Rattle.ring_share.specs.Crowd.{device_by_id, pass_both}
use Rattle.ring_share.specs.Tiers.{shares}
use Rattle.ring_share.specs.declared.tiers.Tier.{Tier}
use Rattle.ring_share.proofs.Coding.{code_told}
use Rattle.ring_room.specs.Load.{Load, IsLoad}
use Rattle.ring_room.specs.Places.{id_at}
use Rattle.ring_room.proofs.Searching.DevicesAt.{is_load, tier_at}
use Rattle.ring_room.proofs.Searching.FreeOutside.{device_there}

pub told_at : (tier : Tier) (devices : List Device) →
    IsStrictlyIncreasing (map (λ device. device.id) devices) → (codes : List ℕ) →
    AreCodes tier devices codes → (place other : ℕ) → place < length devices →
    other < length devices
    → pass_both (shares tier) (device_by_id (id_at devices place) devices)
    (device_by_id (id_at devices other) devices) ≡ (get_or codes place 0 == get_or codes other 0)
told_at tier devices rise codes told place other lt mt =
    let x = device_there devices place lt in
    let y = device_there devices other mt in
    tier_at (shares tier) devices rise place other x.0 y.0 x.1 y.1
    ∙ code_told tier devices place other (get_or codes place 0) (get_or codes other 0) x.0 y.0 x.1
    y.1 (told place lt) (told other mt)

byte_if : (b : Bool) → bool_byte b ≡ (if b then 1 else 0)
byte_if true = refl
byte_if false = refl

-- what a seat on the device at a place adds to the crowd of another, at one kind of tier
pub share_told : (tier : Tier) (load now : Load) → load ≡ now → IsLoad load → (codes : List ℕ) →
    AreCodes tier load.devices codes → (place other more : ℕ) → place < length now.devices →
    other < length now.devices → more ≡ bool_byte (get_or codes place 0 == get_or codes other 0)
    → more ≡ (if pass_both (shares tier) (device_by_id (id_at now.devices place) now.devices)
    (device_by_id (id_at now.devices other) now.devices) then 1 else 0)
share_told tier load now same is codes told place other more lt mt read =
    let rise = (is_load load now same is).rise in
    let codes_told = subst (λ (l : Load). AreCodes tier l.devices codes) same told in
    read ∙ byte_if (get_or codes place 0 == get_or codes other 0) ∙ ap {B = ℕ} (λ b. if b then 1
    else 0) (sym (told_at tier now.devices rise codes codes_told place other lt mt))
