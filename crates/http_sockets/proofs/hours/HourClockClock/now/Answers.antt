use Rattle.std.proofs.Common.{refl}
use Rattle.http_sockets.proofs.hours.HourClockClock.now.Goals as goal

pub returns-in-Some : goal.returns-in-Some
returns-in-Some g c = (c.args.self.now, (refl, rw c.in-Some.is (refl, refl)))

pub returns-in-None : goal.returns-in-None
returns-in-None g c = (
  record {
    time = c.args.self.now.time;
    fixed = c.args.self.now.fixed;
    told = c.unwrap_or.result;
  },
  (refl, rw c.in-None.is refl),
)
