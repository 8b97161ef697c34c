use Rattle.std.proofs.Common.{◌≡◌, ◌<◌, ◌≤◌, ℕ, get_or, take}
use Rattle.ring_words.specs.Limits.{most_devices}
use Rattle.ring_share.specs.Inner.Coded.{coded}
use Rattle.ring_share.proofs.apart.count_at.Given as goal

-- the counts of the places so far
abbrev pub invariant-loop-place : goal.invariant-loop-place
invariant-loop-place l = record {
  counted : (code : ℕ) → code < most_devices → get_or l.counts code 0 ≡ coded l.codes
      (take l.place-index l.places) code;
  few : (code : ℕ) → get_or l.counts code 0 ≤ l.place-index;
}
