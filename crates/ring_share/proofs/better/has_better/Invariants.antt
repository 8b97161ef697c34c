use Rattle.std.proofs.Common.{◌≡◌, ◌<◌, ◌&&◌, ℕ, false, get_or, map, Some}
use Rattle.ring_words.specs.declared.device.Device.{Device}
use Rattle.ring_share.specs.Crowd.{crowd, is_less, is_outside, others, tiers_of}
use Rattle.ring_share.specs.Want.{is_open}
use Rattle.ring_share.proofs.better.has_better.Given as goal

-- none so far is better
abbrev pub invariant-loop-place : goal.invariant-loop-place
invariant-loop-place l =
    let row = map Some l.row in
    let rest = others row l.replica in
    let tiers = tiers_of l.devices in
    (k : ℕ) (d : Device) → k < l.place → (is_open (get_or l.devices k d) && is_outside row
    (get_or l.devices k d).id && is_less (crowd tiers rest (get_or l.devices k d).id)
    (crowd tiers rest (get_or l.row l.replica 0))) ≡ false
