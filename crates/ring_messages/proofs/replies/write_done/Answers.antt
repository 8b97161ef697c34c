use Rattle.std.proofs.Common.{rules}
use Rattle.ring_messages.proofs.Putting.{same_data}
use Rattle.ring_messages.proofs.replies.write_done.Goals as goal

pub returns-in-Import : goal.returns-in-Import
returns-in-Import c =
    same_data c.write_object-in-Import.ensures (rw c.in-Import.is (search rules))
