use Rattle.ring_place.proofs.Placing.Homes.{numbers_more}
use Rattle.ring_place.proofs.homes.by_number.Goals as goal

pub loop-number-preserved : goal.loop-number-preserved
loop-number-preserved c = numbers_more c.args.partitions.now c.args.numbers.now c.loop-number.number
    c.loop-number.list.items c.add_numbered.new.list.items c.loop-number.invariant
    c.in_ok-add_numbered.ensures
