use Rattle.std.proofs.Common.{◌≡◌, ◌<◌, ◌≤◌, ℕ, All, Some, length, get_or, take, true}
use Rattle.ring_words.specs.Limits.{most_devices}
use Rattle.std.specs.Prelude.{slice_get}
use Rattle.std.specs.List.{list_any}
use Rattle.ring_words.specs.declared.device.Device.{Device}
use Rattle.ring_share.specs.Crowd.{pass_both}
use Rattle.ring_share.specs.Near.{is_open_at}
use Rattle.ring_share.specs.Want.{is_open}
use Rattle.ring_share.specs.Tiers.{shares}
use Rattle.ring_share.proofs.tiers.one_each.Given as goal

-- the tiers of the devices so far
abbrev pub invariant-loop-place : goal.invariant-loop-place
invariant-loop-place l = record {
  within : All (λ place. place < length l.devices) (take l.count l.places);
  opens : All (λ place. is_open_at l.devices place ≡ true) (take l.count l.places);
  covered : (k : ℕ) (d : Device) → k < l.place → is_open (get_or l.devices k d) ≡ true →
      list_any (λ place. pass_both (shares l.tier) (slice_get l.devices place)
      (Some (get_or l.devices k d))) (take l.count l.places) ≡ true;
  few : l.count ≤ l.place;
  long : length l.places ≡ most_devices;
}
