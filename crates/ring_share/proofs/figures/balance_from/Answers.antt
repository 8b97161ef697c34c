use Rattle.ring_share.proofs.Balances.{beyond}
use Rattle.ring_share.proofs.figures.balance_from.Goals as goal

pub returns-then-distance-share-ge10 : goal.returns-then-distance-share-ge10
returns-then-distance-share-ge10 c = beyond c.args.distance c.args.share c.requires.some
    c.if-distance-share-ge10.true
