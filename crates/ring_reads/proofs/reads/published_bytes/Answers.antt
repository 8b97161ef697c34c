use Rattle.std.proofs.Common.{rules}
use Rattle.ring_reads.proofs.reads.published_bytes.Goals as goal

pub returns-in_ok-from_slice-in-Text-clause-told : goal.returns-in_ok-from_slice-in-Text-clause-told
returns-in_ok-from_slice-in-Text-clause-told c = search rules

pub returns-in-Swift-clause-told : goal.returns-in-Swift-clause-told
returns-in-Swift-clause-told c = search rules
