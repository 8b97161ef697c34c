use Rattle.std.proofs.Common.{◌≡◌, refl, rules, arith}
use Rattle.std.proofs.lemmas.List.{take_more}
use Rattle.ring_text.proofs.taking.copied.Goals as goal

pub loop-device-preserved : goal.loop-device-preserved
loop-device-preserved c =
    let same : c.in_ok-clone.field-0 ≡ c.device-item.result = search rules in
    record {
      same = rw (
        take_more c.args.devices.now c.loop-device.device-index c.device-item.result
            (omega arith),
        ← c.device-item.is,
        c.in_ok-push.ensures.items,
        c.loop-device.invariant.same,
        same,
      ) refl;
    }
