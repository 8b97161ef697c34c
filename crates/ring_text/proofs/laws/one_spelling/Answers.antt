use Rattle.std.proofs.Common.{refl}
use Rattle.ring_text.proofs.Text.{lines_of_text}
use Rattle.ring_text.proofs.Once.{one_snapshot, no_more}
use Rattle.ring_text.proofs.laws.one_spelling.Goals as goal

pub returns-clause-one_snapshot : goal.returns-clause-one_snapshot
returns-clause-one_snapshot c = λ bytes s t a b. one_snapshot _ s t (lines_of_text bytes _ s refl a)
    (lines_of_text bytes _ t refl b)

pub returns-clause-no_beginning : goal.returns-clause-no_beginning
returns-clause-no_beginning c = no_more
