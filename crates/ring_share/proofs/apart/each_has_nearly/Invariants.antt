use Rattle.std.proofs.Common.{◌<◌, ◌≤◌, ◌+◌, ℕ, get_or}
use Rattle.ring_share.proofs.apart.each_has_nearly.Given as goal

-- none of the places so far has two fewer
abbrev pub invariant-loop-place : goal.invariant-loop-place
invariant-loop-place l = (index : ℕ) → index < l.place-index →
    l.most ≤ get_or l.counts (get_or l.codes (get_or l.places index 0) 0) 0 + 1
