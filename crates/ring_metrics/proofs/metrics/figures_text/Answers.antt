use Rattle.std.proofs.Common.{◌∙◌, ap, arith}
use Rattle.std.specs.List.{flat_map}
use Rattle.std.proofs.lemmas.List.{take_all}
use Rattle.ring_tables.proofs.Lists.{next_part}
use Rattle.ring_metrics.specs.Metrics.{figure_metric}
use Rattle.ring_metrics.proofs.metrics.figures_text.Goals as goal

pub loop-what-preserved : goal.loop-what-preserved
loop-what-preserved c = next_part (figure_metric c.args.all.now) c.args.figures.now
    c.loop-what.what-index _ _ _ (omega arith) c.loop-what.invariant c.in_ok-push_figure.ensures

pub returns : goal.returns
returns c = c.loop-what.invariant ∙ ap (flat_map (figure_metric c.args.all.now))
    (take_all c.loop-what.what-index c.args.figures.now c.loop-what-test.false)
