use Rattle.std.proofs.Common.{◌≡◌, ◌-◌, ◌<◌, length, arith}
use Rattle.std.proofs.lemmas.List.{length-drop, length-take}
use Rattle.ring_text.proofs.Stopped.{devices_stop, seats_stop}
use Rattle.ring_text.proofs.stops.good_rest.Goals as goal

pub returns-then-good-count-clause-stop : goal.returns-then-good-count-clause-stop
returns-then-good-count-clause-stop c = λ within.
    let devices = c.in_ok-devices.devices.items in
    let good = c.len-good.result in
    let long : good ≡ length devices = omega (
      arith,
      c.in_ok-devices.devices.ok.0,
      c.len-good.ensures,
    ) in
    let front : good < c.min.result = omega (arith, c.if-good-count.true, c.min.ensures, within) in
    devices_stop c.args.head.now c.args.lines.now devices c.min.result good long front within
    (omega (arith, c.from-count.ensures, c.if-good-count.true)) c.in_ok-devices.ensures.read
    (c.in_ok-devices.ensures.stop (simp length-take (omega (arith, front, within, long))))

pub returns-clause-stop : goal.returns-clause-stop
returns-clause-stop c = λ within.
    let lines = c.args.lines.now in
    let devices = c.in_ok-devices.devices.items in
    let good = c.len-good.result in
    let k = c.in_ok-good_seats.field-0 in
    let long : good ≡ length devices = omega (
      arith,
      c.in_ok-devices.devices.ok.0,
      c.len-good.ensures,
    ) in
    let few = simp length-take at c.in_ok-devices.ensures.within in
    let count : good ≡ c.args.head.now.devices = omega (
      arith,
      few,
      long,
      c.min.ensures,
      c.from-count.ensures,
      c.if-good-count.false,
    ) in
    seats_stop c.args.head.now lines devices c.min.result (length lines - good) good k long count
    (omega (arith, few, long)) within (omega arith) c.in_ok-devices.ensures.read
    (rw c.deref.ensures.value at (c.in_ok-good_seats.ensures.stop (simp (length-take, length-drop)
    (omega (arith, within)))))
