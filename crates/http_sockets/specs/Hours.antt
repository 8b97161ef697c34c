-- Clocks that tell a given hour.
use Rattle.std.specs.Prelude.{◌≡◌, ℕ, Option, MatchOption}
use Rattle.http_sockets.specs.declared.hours.HourClock.{HourClock}

-- the hour that a clock was given to tell, if any
abbrev pub given_hour : {T : Type 0} → HourClock T → Option ℕ
given_hour clock = clock.fixed

-- the hour that a clock of the machine told last, 0 at first
abbrev pub told_hour : {T : Type 0} → HourClock T → ℕ
told_hour clock = clock.told

-- The clock that was given an hour tells it and stays as it is. The other remembers what it tells.
abbrev pub TellsGiven : {T : Type 0} → HourClock T → ℕ → HourClock T → Type 0
TellsGiven old hour new =
    (given_hour new ≡ given_hour old)
    × MatchOption (given_hour old) (told_hour new ≡ hour)
    (λ given. (hour ≡ given) × (new ≡ old))
