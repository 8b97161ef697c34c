use Rattle.std.proofs.Common.{◌≡◌, ◌<◌, ◌≤◌, ℕ, get_or, take}
use Rattle.ring_words.specs.Limits.{most_devices}
use Rattle.ring_share.specs.Inner.Coded.{coded}
use Rattle.ring_share.proofs.Bridge.{places_by_id}
use Rattle.ring_share.proofs.apart.stand_apart.Given as goal

-- the seats so far are counted, and stand apart
abbrev pub invariant-loop-id : goal.invariant-loop-id
invariant-loop-id l = record {
  regions : (code : ℕ) → code < most_devices → get_or l.by_region code 0 ≡ coded l.in_region
      (take l.id-index (places_by_id l.devices l.row)) code;
  zones : (code : ℕ) → code < most_devices → get_or l.by_zone code 0 ≡ coded l.in_zone
      (take l.id-index (places_by_id l.devices l.row)) code;
  region : (code : ℕ) → get_or l.by_region code 0 ≤ l.most;
  zone : (code : ℕ) → get_or l.by_zone code 0 ≤ 1;
  few : l.most ≤ l.id-index;
}
