use Rattle.std.proofs.lemmas.Grind.{common_steps}
use Rattle.std.proofs.Common.{arith}
use Rattle.ring_share.proofs.Sharing.{none_waits, shares_more}
use Rattle.ring_share.proofs.wants.give_one.Goals as goal

pub prove-unreachable-requires : goal.prove-unreachable-requires
prove-unreachable-requires c =
    let over = none_waits c.args.ring.now c.args.shares.now (omega (
      arith,
      c.requires.total,
      c.requires.some,
    )) c.requires.shares c.in_default.ensures in
    omega (arith, over, c.requires.left)

pub returns-in-Some-clause-shares : goal.returns-in-Some-clause-shares
returns-in-Some-clause-shares c = shares_more c.args.ring.now c.args.shares.now c.in-Some.place
    c.requires.shares c.in-Some.ensures.1 c.in-Some.ensures.2

pub overflow_add-shares : goal.overflow_add-shares
overflow_add-shares c = grind (arith, common_steps)

pub returns-in-Some-clause-more : goal.returns-in-Some-clause-more
returns-in-Some-clause-more c = grind (arith, common_steps)
