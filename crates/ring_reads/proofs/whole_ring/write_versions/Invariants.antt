use Rattle.std.proofs.Common.{◌≡◌, ◌++◌, take}
use Rattle.ring_reads.specs.Inner.Lists.{told_tokens}
use Rattle.ring_reads.proofs.RingData.{version_data}
use Rattle.ring_reads.proofs.whole_ring.write_versions.Given as goal

-- the versions so far
abbrev pub invariant-loop-text : goal.invariant-loop-text
invariant-loop-text l =
    (l.writer.tokens ≡ l.fn.writer.tokens
    ++ told_tokens version_data (take l.text-index l.published))
    × (l.writer.before ≡ l.fn.writer.before)
