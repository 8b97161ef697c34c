use Rattle.std.proofs.Common.{sym, ◌∙◌, true≢false, arith}
use Rattle.ring_text.proofs.Stopped.{stands_twice}
use Rattle.ring_text.proofs.stops.are_devices.Goals as goal

pub returns-then-not-is_device : goal.returns-then-not-is_device
returns-then-not-is_device c = λ seats. absurd (true≢false (sym (seats.known c.loop-place.place 0
    (omega arith)) ∙ sym c.is_device.ensures ∙ c.if-not-is_device.true))

pub returns-then-contains : goal.returns-then-contains
returns-then-contains c = λ seats. absurd (stands_twice c.args.devices.now c.args.numbers.now
    c.loop-place.place (omega arith) (sym c.contains.ensures.value ∙ c.if-contains.true) seats)
