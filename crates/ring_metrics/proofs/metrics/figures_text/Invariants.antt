use Rattle.std.proofs.Common.{◌≡◌, string_bytes, take}
use Rattle.std.specs.List.{flat_map}
use Rattle.ring_metrics.specs.Metrics.{figure_metric}
use Rattle.ring_metrics.proofs.metrics.figures_text.Given as goal

-- the metrics so far
abbrev pub invariant-loop-what : goal.invariant-loop-what
invariant-loop-what l = string_bytes l.text ≡ flat_map (figure_metric l.all)
    (take l.what-index l.figures)
