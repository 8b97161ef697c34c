use Rattle.std.proofs.Common.{◌≡◌, ◌++◌, flat_map, take}
use Rattle.ring_messages.specs.Objects.{member_tokens}
use Rattle.ring_messages.proofs.objects.write_members.Given as goal

abbrev pub invariant-loop-member : goal.invariant-loop-member
invariant-loop-member l =
    (l.writer.tokens ≡ l.fn.writer.tokens ++ flat_map member_tokens (take l.member-index l.members))
    × (l.writer.before ≡ l.fn.writer.before)
