use Rattle.std.proofs.Common.{◌≡◌, ◌++◌, take}
use Rattle.std.specs.Prelude.{filter}
use Rattle.ring_model.specs.Rings.{is_before, seen}
use Rattle.ring_model.proofs.rings.push_before.Given as goal

abbrev pub invariant-loop-entry : goal.invariant-loop-entry
invariant-loop-entry l = seen l.into.items ≡ seen l.fn.into.items ++
    filter (λ e. is_before e.0 l.name) (take l.entry-index (seen l.rings))
