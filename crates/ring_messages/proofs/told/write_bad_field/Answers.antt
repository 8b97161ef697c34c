use Rattle.std.proofs.Common.{rules}
use Rattle.ring_messages.proofs.Putting.{same_data}
use Rattle.ring_messages.proofs.told.write_bad_field.Goals as goal

pub returns : goal.returns
returns c = same_data c.write_object.ensures (search rules)
