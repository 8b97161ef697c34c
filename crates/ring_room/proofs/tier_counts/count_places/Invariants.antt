use Rattle.std.proofs.Common.{◌≡◌, ◌<◌, ◌≤◌, ℕ, get_or, take}
use Rattle.ring_words.specs.Limits.{most_devices}
use Rattle.ring_room.specs.Inner.TierCounts.{places_with}
use Rattle.ring_room.proofs.tier_counts.count_places.Given as goal

-- the counts of the places so far
abbrev pub invariant-loop-place : goal.invariant-loop-place
invariant-loop-place l = record {
  regions : (code : ℕ) → code < most_devices → get_or l.counts.by_region code 0 ≡ places_with l.regions
      (take l.place-index l.places) code;
  few_regions : (code : ℕ) → get_or l.counts.by_region code 0 ≤ l.place-index;
  zones : (code : ℕ) → code < most_devices → get_or l.counts.by_zone code 0 ≡ places_with l.zones
      (take l.place-index l.places) code;
  few_zones : (code : ℕ) → get_or l.counts.by_zone code 0 ≤ l.place-index;
}
