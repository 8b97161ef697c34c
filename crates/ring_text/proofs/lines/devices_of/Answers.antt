use Rattle.std.proofs.Common.{map, subst, Bor, List, ℕ, arith}
use Rattle.std.proofs.lemmas.List.{take_all}
use Rattle.std.proofs.lemmas.Result.{err_from_is_err_and}
use Rattle.ring_text.specs.Inner.Reading.{IsDeviceLine, AreDeviceLines}
use Rattle.ring_words.proofs.Spelled.{list_err}
use Rattle.ring_text.proofs.Devices.{devices_pushed, device_inside}
use Rattle.ring_text.proofs.lines.devices_of.Goals as goal

pub returns-in_err-device : goal.returns-in_err-device
returns-in_err-device c =
    let p = err_from_is_err_and c.from_residual-in_err-device.result
    c.from_residual-in_err-device.ensures.1 in
    rw (p.1, p.2) (list_err (IsDeviceLine _) (AreDeviceLines (map (λ (l : Bor (List ℕ)). l.now)
    c.args.lines.now)) c.in_err-device.field-0.0 c.in_err-device.ensures
    (λ ds are. device_inside c.args.lines.now c.loop-line.line-index _ ds (omega arith) are))

pub loop-line-preserved : goal.loop-line-preserved
loop-line-preserved c = rw c.in_ok-push.ensures.items (devices_pushed c.args.lines.now
    c.loop-line.line-index _ c.loop-line.devices.items c.in_ok-device.device (omega arith)
    c.loop-line.invariant c.in_ok-device.ensures)

pub returns : goal.returns
returns c = subst (λ (all : List (Bor (List ℕ))). AreDeviceLines (map (λ (x : Bor (List ℕ)). x.now) all)
    c.loop-line.devices.items) (take_all c.loop-line.line-index c.args.lines.now c.loop-line-test.false)
    c.loop-line.invariant
