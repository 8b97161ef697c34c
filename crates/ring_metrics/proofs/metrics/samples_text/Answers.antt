use Rattle.std.proofs.Common.{◌∙◌, ap, arith}
use Rattle.std.specs.List.{flat_map}
use Rattle.std.proofs.lemmas.List.{take_all}
use Rattle.ring_tables.proofs.Lists.{next_part}
use Rattle.ring_metrics.specs.Metrics.{figure_sample}
use Rattle.ring_metrics.proofs.metrics.samples_text.Goals as goal

pub loop-measured-preserved : goal.loop-measured-preserved
loop-measured-preserved c = next_part (figure_sample c.args.what) c.args.all.now
    c.loop-measured.measured-index _ _ _ (omega arith) c.loop-measured.invariant
    c.in_ok-push_sample.ensures

pub returns : goal.returns
returns c = c.loop-measured.invariant ∙ ap (flat_map (figure_sample c.args.what))
    (take_all c.loop-measured.measured-index c.args.all.now c.loop-measured-test.false)
