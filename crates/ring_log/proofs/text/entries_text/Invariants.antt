use Rattle.std.proofs.Common.{◌≡◌, string_bytes, take}
use Rattle.ring_log.specs.Log.{entries_text}
use Rattle.ring_log.proofs.text.entries_text.Given as goal

-- the lines so far
abbrev pub invariant-loop-index : goal.invariant-loop-index
invariant-loop-index l = string_bytes l.text ≡ entries_text l.form l.from (take l.index l.entries)
