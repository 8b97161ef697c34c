use Rattle.std.proofs.Common.{◌≡◌, ◌++◌, map, take}
use Rattle.std.specs.Prelude.{string_bytes}
use Rattle.std.specs.List.{flat_map}
use Rattle.ring_text.specs.Spelling.{line, device_line}
use Rattle.ring_text.proofs.write.push_devices.Given as goal

abbrev pub invariant-loop-device : goal.invariant-loop-device
invariant-loop-device l = string_bytes l.text ≡ string_bytes l.initial.text ++
    flat_map line (map device_line (take l.device-index l.devices))
