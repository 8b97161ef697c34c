use Rattle.std.proofs.Common.{refl}
use Rattle.ring_book.proofs.telling.told_hidden.Goals as goal

pub returns-in-NoVersion : goal.returns-in-NoVersion
returns-in-NoVersion c = rw c.in-NoVersion.is refl

pub returns-in-TooFewDevices : goal.returns-in-TooFewDevices
returns-in-TooFewDevices c = rw c.in-TooFewDevices.is refl
