use Rattle.std.proofs.Common.{rules}
use Rattle.ring_messages.proofs.Putting.{same_keyed}
use Rattle.ring_messages.proofs.commands.write_command.Goals as goal

pub returns-in-Add : goal.returns-in-Add
returns-in-Add c = same_keyed c.write_add.ensures (rw c.in-Add.is (search rules))
