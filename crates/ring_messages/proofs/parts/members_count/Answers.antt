use Rattle.std.proofs.Common.{rules}
use Rattle.serde_json.proofs.Views.{view-Object, members_len-members_view}
use Rattle.ring_messages.proofs.parts.members_count.Goals as goal

pub returns-in-Object : goal.returns-in-Object
returns-in-Object c =
    rw (
      c.in-Object.is,
      view-Object c.in-Object.members,
      members_len-members_view c.in-Object.members.entries,
    ) (search rules)
