use Rattle.std.proofs.Common.{◌≡◌, string_bytes, take}
use Rattle.std.specs.List.{flat_map}
use Rattle.ring_metrics.specs.Metrics.{figure_sample}
use Rattle.ring_metrics.proofs.metrics.samples_text.Given as goal

-- the lines so far
abbrev pub invariant-loop-measured : goal.invariant-loop-measured
invariant-loop-measured l = string_bytes l.text ≡ flat_map (figure_sample l.what)
    (take l.measured-index l.all)
