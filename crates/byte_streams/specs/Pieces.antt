-- What is read at once.
use Rattle.std.specs.Prelude.{ℕ}

-- how many bytes are read at once, at most
abbrev pub chunk_size : ℕ
chunk_size = 65536
