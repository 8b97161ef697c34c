use Rattle.std.proofs.Common.{◌≡◌, ◌++◌, take}
use Rattle.ring_reads.specs.Inner.Lists.{told_tokens}
use Rattle.ring_reads.proofs.StoreData.{shared_data}
use Rattle.ring_reads.proofs.whole_store.write_each_ring.Given as goal

-- what is told of the rings so far
abbrev pub invariant-loop-entry : goal.invariant-loop-entry
invariant-loop-entry l =
    (l.writer.tokens ≡ l.fn.writer.tokens ++ told_tokens shared_data (take l.entry-index l.entries))
    × (l.writer.before ≡ l.fn.writer.before)
