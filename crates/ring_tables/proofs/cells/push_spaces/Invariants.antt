use Rattle.std.proofs.Common.{◌≡◌, ◌++◌, string_bytes}
use Rattle.std.specs.Prelude.{replicate}
use Rattle.ring_tables.proofs.cells.push_spaces.Given as goal

-- the spaces so far
abbrev pub invariant-loop-space : goal.invariant-loop-space
invariant-loop-space l = string_bytes l.into ≡ string_bytes l.fn.into ++ replicate l._space 32
