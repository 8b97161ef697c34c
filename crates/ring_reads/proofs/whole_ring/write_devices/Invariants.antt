use Rattle.std.proofs.Common.{◌≡◌, ◌++◌, take}
use Rattle.std.specs.List.{zip}
use Rattle.ring_reads.specs.Inner.Lists.{told_tokens}
use Rattle.ring_reads.proofs.RingData.{pair_data}
use Rattle.ring_reads.proofs.whole_ring.write_devices.Given as goal

-- what is told of the devices so far
abbrev pub invariant-loop-place : goal.invariant-loop-place
invariant-loop-place l =
    (l.writer.tokens ≡ l.fn.writer.tokens
    ++ told_tokens (pair_data l.ring) (take l.place (zip l.device-items l.wants)))
    × (l.writer.before ≡ l.fn.writer.before)
