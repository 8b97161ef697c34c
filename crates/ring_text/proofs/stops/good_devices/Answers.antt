use Rattle.std.proofs.Common.{◌≡◌, Err, sym, ◌∙◌, true≢false, arith}
use Rattle.ring_words.specs.declared.spelling.SpellingFault.TheVariants.{Bad}
use Rattle.ring_text.specs.Inner.Reading.{IsDeviceLine}
use Rattle.ring_text.proofs.Devices.{devices_pushed}
use Rattle.ring_text.proofs.Stopped.{found_reads, lent_devices, no_device_there, no_follower_there}
use Rattle.ring_text.proofs.stops.good_devices.Goals as goal

pub returns-in_default-clause-read : goal.returns-in_default-clause-read
returns-in_default-clause-read c = lent_devices c.args.lines.now c.loop-line.devices.items
    c.loop-line.line-index _ c.loop-line.invariant.count c.loop-line.invariant.are

pub returns-in_default-clause-stop : goal.returns-in_default-clause-stop
returns-in_default-clause-stop c = λ within.
    let bad : c.device_at.result ≡ Err Bad = rw c.in_default.is at c.in_ok-device.ensures in
    no_device_there c.args.lines.now c.loop-line.line-index _ _ c.loop-line.devices.items
    c.device_at.result c.loop-line.invariant.count (omega arith) c.device_at.ensures bad

pub returns-then-not-can_follow-clause-read : goal.returns-then-not-can_follow-clause-read
returns-then-not-can_follow-clause-read c = lent_devices c.args.lines.now
    c.loop-line.devices.items c.loop-line.line-index _ c.loop-line.invariant.count
    c.loop-line.invariant.are

pub returns-then-not-can_follow-clause-stop : goal.returns-then-not-can_follow-clause-stop
returns-then-not-can_follow-clause-stop c = λ within.
    no_follower_there c.args.lines.now c.loop-line.line-index _ _ c.loop-line.devices.items
    c.in-Some.device c.loop-line.invariant.count (omega arith)
    (found_reads (IsDeviceLine _) c.device_at.result c.in_ok-device.field-0 c.in-Some.device
    c.device_at.ensures c.in_ok-device.ensures c.in-Some.is)
    (λ can. true≢false (sym (c.can_follow.ensures.1 (rw c.deref.ensures.value can)) ∙
    c.if-not-can_follow.true))

pub returns-clause-read : goal.returns-clause-read
returns-clause-read c = lent_devices c.args.lines.now c.loop-line.devices.items
    c.loop-line.line-index _ c.loop-line.invariant.count c.loop-line.invariant.are

pub returns-clause-stop : goal.returns-clause-stop
returns-clause-stop c = λ within. absurd (omega arith)

pub loop-line-preserved : goal.loop-line-preserved
loop-line-preserved c = record {
  count = omega (arith, c.in_ok-push.ensures.len);
  are = rw c.in_ok-push.ensures.items (devices_pushed c.args.lines.now c.loop-line.line-index _
      c.loop-line.devices.items c.in-Some.device (omega arith) c.loop-line.invariant.are
      (found_reads (IsDeviceLine _) c.device_at.result c.in_ok-device.field-0 c.in-Some.device
      c.device_at.ensures c.in_ok-device.ensures c.in-Some.is));
}
