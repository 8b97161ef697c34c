use Rattle.std.proofs.Common.{◌≡◌, ◌++◌, map, take, drop}
use Rattle.ring_model.proofs.altering.alter_all.Given as goal

abbrev pub invariant-loop-device : goal.invariant-loop-device
invariant-loop-device g l = l.devices ≡ map (g.A.Alteration.altered l.alteration)
    (take l.device-index l.fn.devices) ++ drop l.device-index l.fn.devices
