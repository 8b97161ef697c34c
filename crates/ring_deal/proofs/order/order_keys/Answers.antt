use Rattle.ring_deal.proofs.Ordered.{keys_more}
use Rattle.ring_deal.proofs.order.order_keys.Goals as goal

pub loop-place-preserved : goal.loop-place-preserved
loop-place-preserved c =
    let tiers = c.args.tiers.now in
    keys_more c.args.devices.now c.args.ranks.now tiers.regions tiers.zones tiers.servers
    c.loop-place.place c.loop-place.keys.items c.push.new.self.items c.order_key.result
    c.requires.regions c.requires.zones c.requires.servers c.loop-place-test.true
    c.loop-place.invariant c.order_key.ensures.by_codes c.in_ok-push.ensures.items
