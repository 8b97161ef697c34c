use Rattle.std.proofs.Common.{◌≡◌, ◌<◌, ℕ, get_or, length}
use Rattle.ring_words.specs.Limits.{most_devices}
use Rattle.ring_share.specs.Codes.{IsCode}
use Rattle.ring_share.proofs.apart.tier_codes.Given as goal

-- the codes so far
abbrev pub invariant-loop-place : goal.invariant-loop-place
invariant-loop-place l = record {
  codes : (k : ℕ) → k < l.place → IsCode l.tier l.devices k (get_or l.codes k 0);
  long : length l.codes ≡ most_devices;
}
