use Rattle.std.proofs.Common.{take}
use Rattle.ring_model.specs.Rings.{seen}
use Rattle.ring_metrics.specs.Measures.{AreMeasured}
use Rattle.ring_metrics.proofs.measures.measured_rings.Given as goal

-- what is measured of the rings so far
abbrev pub invariant-loop-entry : goal.invariant-loop-entry
invariant-loop-entry l = AreMeasured (seen (take l.entry-index l.entries)) l.hour l.all.items
