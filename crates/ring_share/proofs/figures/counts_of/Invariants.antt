use Rattle.std.proofs.Common.{◌≡◌, ◌==◌, ◌≤◌, ℕ, get_or, length, take, count_by, Some}
use Rattle.ring_words.specs.Limits.{most_devices}
use Rattle.std.specs.Prelude.{slice_get}
use Rattle.ring_words.specs.declared.device.Device.{Device}
use Rattle.ring_share.proofs.figures.counts_of.Given as goal

-- how many of the seats so far each device has
abbrev pub invariant-loop-seat : goal.invariant-loop-seat
invariant-loop-seat l = record {
  long : length l.counts ≡ most_devices;
  counts : (place : ℕ) (device : Device) → slice_get l.devices place ≡ Some device →
      get_or l.counts place 0 ≡ count_by (λ seat. seat == device.id) (take l.seat-index l.seats);
  small : (place : ℕ) → get_or l.counts place 0 ≤ l.seat-index;
}
