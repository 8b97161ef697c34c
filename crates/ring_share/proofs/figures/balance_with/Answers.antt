use Rattle.std.proofs.Common.{arith, rules}
use Rattle.ring_share.proofs.Balances.{have_few}
use Rattle.ring_share.proofs.figures.balance_with.Goals as goal

pub device_balance-requires-clause-few : goal.device_balance-requires-clause-few
device_balance-requires-clause-few c =
    let few = have_few c.args.ring.now c.args.device.now.id c.devices.ensures.valid in
    omega (arith, few, c.requires)

pub returns : goal.returns
returns c = search rules
