use Rattle.std.proofs.Common.{◌≡◌, length, map, take}
use Rattle.ring_text.specs.Inner.Reading.{AreDeviceLines}
use Rattle.ring_text.proofs.stops.good_devices.Given as goal

-- the lines so far are those of the devices
abbrev pub invariant-loop-line : goal.invariant-loop-line
invariant-loop-line l = record {
  count : length l.devices.items ≡ l.line-index;
  are : AreDeviceLines (map (λ line. line.now) (take l.line-index l.lines)) l.devices.items;
}
