use Rattle.std.proofs.Common.{ap, arith}
use Rattle.ring_words.specs.declared.device.Device.{Device}
use Rattle.ring_share.proofs.Standing.{not_before, is_before, read_at, stands_there}
use Rattle.ring_share.proofs.places.place_by_halving.Goals as goal

pub loop-high-init : goal.loop-high-init
loop-high-init c = record {
  some = c.span_of-low.ensures.some;
  within = c.span_of-low.ensures.within;
  between = c.span_of-low.ensures.between;
}

pub loop-high-preserved-then-devices-middle : goal.loop-high-preserved-then-devices-middle
loop-high-preserved-then-devices-middle c =
    let read = read_at c.args.devices.now _ c.index-devices-middle.result (omega arith)
    c.index-devices-middle.is in
    let ids = ap (λ (device : Device). device.id) c.index-devices-middle.is in
    record {
      some = omega arith;
      within = omega arith;
      between = λ k device at named. (
        not_before c.args.devices.now c.requires.rise _ k c.index-devices-middle.result device
            read at (omega (arith, named, ids, c.if-devices-middle.true)),
        (c.loop-high.invariant.between k device at named).1,
      );
    }

pub loop-high-preserved : goal.loop-high-preserved
loop-high-preserved c =
    let read = read_at c.args.devices.now _ c.index-devices-middle.result (omega arith)
    c.index-devices-middle.is in
    let ids = ap (λ (device : Device). device.id) c.index-devices-middle.is in
    record {
      some = omega arith;
      within = omega arith;
      between = λ k device at named. (
        (c.loop-high.invariant.between k device at named).0,
        is_before c.args.devices.now c.requires.rise _ k c.index-devices-middle.result device
            read at (omega (arith, named, ids, c.if-devices-middle.false)),
      );
    }

pub returns-clause-stands : goal.returns-clause-stands
returns-clause-stands c = stands_there c.args.devices.now c.args.id c.loop-high.low c.requires.known
    (λ k device at named. let there = c.loop-high.invariant.between k device at named in
    (there.0, omega (arith, there.1)))
