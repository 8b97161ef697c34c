-- Writers that take so many bytes in all.
use Rattle.std.specs.Prelude.{ℕ}
use Rattle.timed_streams.specs.declared.capped.CappedWriter.{CappedWriter}

-- how many bytes a writer still takes
abbrev pub still_takes : {W : Type 0} → CappedWriter W → ℕ
still_takes writer = writer.left
