use Rattle.std.proofs.Common.{◌≡◌, ◌<◌, ℕ, false, get_or}
use Rattle.ring_share.specs.Crowd.{is_less}
use Rattle.ring_share.specs.Inner.Coded.{crowd_at}
use Rattle.ring_share.proofs.better.has_less.Given as goal

-- none so far is
abbrev pub invariant-loop-place : goal.invariant-loop-place
invariant-loop-place l = (index : ℕ) → index < l.place-index →
    is_less (crowd_at l.codes l.counts (get_or l.places index 0)) l.own ≡ false
