use Rattle.std.proofs.Common.{rules, subst, sym}
use Rattle.ring_share.specs.Want.{AreWanted}
use Rattle.ring_metrics.proofs.measures.measured_ring.Goals as goal

pub returns : goal.returns
returns c = record {
  name = c.as_str.ensures.text;
  version = c.version.ensures;
  partitions = c.partitions_of.ensures;
  replicas = search rules;
  open_devices = c.devices_in.ensures;
  drained_devices = c.devices_in-2.ensures;
  removed_devices = c.devices_in-3.ensures;
  balance = c.balance.ensures;
  dispersion = c.dispersion.ensures;
  locked = c.locked_count.ensures;
  rest = c.rest.ensures;
  published = c.published_count.ensures;
  misplaced = (
    c.deref.result.now,
    subst (AreWanted c.args.ring.now) (sym c.deref.ensures.value) c.in_ok-wants.ensures,
    c.misplaced_seats-misplaced.ensures,
  );
}
