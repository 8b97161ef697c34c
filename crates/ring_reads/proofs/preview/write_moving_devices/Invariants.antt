use Rattle.std.proofs.Common.{◌≡◌, ◌++◌, take}
use Rattle.std.specs.List.{zip}
use Rattle.ring_reads.specs.Inner.Lists.{told_tokens}
use Rattle.ring_reads.proofs.Moving.{pair_moves}
use Rattle.ring_reads.proofs.preview.write_moving_devices.Given as goal

-- what is told of the devices so far
abbrev pub invariant-loop-place : goal.invariant-loop-place
invariant-loop-place l =
    (l.writer.tokens ≡ l.fn.writer.tokens
    ++ told_tokens (pair_moves l.ring l.new) (take l.place (zip l.device-items l.wants)))
    × (l.writer.before ≡ l.fn.writer.before)
