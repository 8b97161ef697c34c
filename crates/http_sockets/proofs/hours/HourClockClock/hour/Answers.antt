use Rattle.std.proofs.Common.{refl}
use Rattle.http_sockets.proofs.hours.HourClockClock.hour.Goals as goal

pub returns-in-Some : goal.returns-in-Some
returns-in-Some g c = (refl, rw c.in-Some.is (refl, refl))
