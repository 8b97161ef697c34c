use Rattle.std.proofs.Common.{rules}
use Rattle.ring_text.proofs.state.Snapshot.seats.Goals as goal

pub returns-clause-value : goal.returns-clause-value
returns-clause-value c = search rules
