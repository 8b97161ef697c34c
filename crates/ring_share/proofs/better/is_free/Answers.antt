use Rattle.std.proofs.Common.{◌==◌, ◌&&◌, ◌∙◌, Some, ap, map, not, sym}
use Rattle.ring_share.specs.Crowd.{is_outside}
use Rattle.ring_share.proofs.Bridge.{outside_is}
use Rattle.ring_share.proofs.better.is_free.Goals as goal

pub returns-then-is_open : goal.returns-then-is_open
returns-then-is_open c =
    let told = ap not c.contains.ensures.value ∙ sym (outside_is
    (λ other. other == c.args.device.now.id)
    c.args.row.now) in
    let opens = sym (sym c.is_open.ensures ∙ c.if-is_open.true) in
    told ∙ ap (λ b. b && is_outside (map Some c.args.row.now) c.args.device.now.id) opens
