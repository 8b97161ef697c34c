use Rattle.std.proofs.Common.{arith}
use Rattle.std.proofs.lemmas.List.{drop_more}
use Rattle.http_api.proofs.Hours.{first_told}
use Rattle.http_api.proofs.clock.KnownClockClock.now.Goals as goal

pub returns : goal.returns
returns c =
    let is = drop_more c.self.inside.hours.items c.self.inside.told c.index.result.now
    (omega (arith, c.self.invariant)) in
    rw (← c.self.view_is) (rw is (rw (← c.index.ensures) (first_told _ _)))
