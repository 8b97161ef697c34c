use Rattle.std.proofs.Common.{refl}
use Rattle.ring_messages.proofs.words.word_of.Goals as goal

pub returns-in-SetWeight : goal.returns-in-SetWeight
returns-in-SetWeight c = rw c.in-SetWeight.is refl

pub returns-in-Keep : goal.returns-in-Keep
returns-in-Keep c = rw c.in-Keep.is refl

pub returns-in-Remove : goal.returns-in-Remove
returns-in-Remove c = rw c.in-Remove.is refl
