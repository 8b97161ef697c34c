use Rattle.std.proofs.Common.{◌≡◌, Some, false, take}
use Rattle.std.specs.Prelude.{slice_get}
use Rattle.std.specs.List.{list_any}
use Rattle.ring_share.specs.Crowd.{pass_both}
use Rattle.ring_share.specs.Tiers.{shares}
use Rattle.ring_share.proofs.tiers.has_shared.Given as goal

-- none so far
abbrev pub invariant-loop-place : goal.invariant-loop-place
invariant-loop-place l = list_any (λ place. pass_both (shares l.tier) (slice_get l.devices place)
    (Some l.device)) (take l.place-index l.places) ≡ false
