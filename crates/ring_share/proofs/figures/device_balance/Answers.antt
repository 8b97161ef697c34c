use Rattle.std.proofs.Common.{sym, ◌∙◌, arith}
use Rattle.ring_share.proofs.Balances.{product_some}
use Rattle.ring_share.proofs.Sharing.{weighs}
use Rattle.ring_share.proofs.figures.device_balance.Goals as goal

pub balance_from-requires-clause-some : goal.balance_from-requires-clause-some
balance_from-requires-clause-some c =
    let some = weighs c.args.device.now (sym c.is_open.ensures ∙ c.if-is_open.true) in
    product_some c.seat_count.result c.from-weight.result c.seat_count.ensures.some
    (omega (arith, some, c.from-weight.ensures, c.hundredths.ensures.value))
