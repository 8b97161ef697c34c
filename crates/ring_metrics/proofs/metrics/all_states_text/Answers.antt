use Rattle.std.proofs.Common.{◌∙◌, ap, arith}
use Rattle.std.specs.List.{flat_map}
use Rattle.std.proofs.lemmas.List.{take_all}
use Rattle.ring_tables.proofs.Lists.{next_part}
use Rattle.ring_metrics.specs.Metrics.{device_samples}
use Rattle.ring_metrics.proofs.metrics.all_states_text.Goals as goal

pub loop-measured-preserved : goal.loop-measured-preserved
loop-measured-preserved c = next_part device_samples c.args.all.now
    c.loop-measured.measured-index _ _ _ (omega arith) c.loop-measured.invariant
    c.in_ok-push_states.ensures

pub returns : goal.returns
returns c = c.loop-measured.invariant ∙ ap (flat_map device_samples)
    (take_all c.loop-measured.measured-index c.args.all.now c.loop-measured-test.false)
