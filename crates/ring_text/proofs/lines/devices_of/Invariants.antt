use Rattle.std.proofs.Common.{map, take}
use Rattle.ring_text.specs.Inner.Reading.{AreDeviceLines}
use Rattle.ring_text.proofs.lines.devices_of.Given as goal

abbrev pub invariant-loop-line : goal.invariant-loop-line
invariant-loop-line l = AreDeviceLines (map (λ line. line.now) (take l.line-index l.lines))
    l.devices.items
