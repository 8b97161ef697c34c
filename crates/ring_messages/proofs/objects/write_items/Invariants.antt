use Rattle.std.proofs.Common.{◌≡◌, ◌++◌, map, take}
use Rattle.ring_messages.specs.Objects.{scalar_token}
use Rattle.ring_messages.proofs.objects.write_items.Given as goal

abbrev pub invariant-loop-item : goal.invariant-loop-item
invariant-loop-item l =
    (l.writer.tokens ≡ l.fn.writer.tokens ++ map scalar_token (take l.item-index l.items))
    × (l.writer.before ≡ l.fn.writer.before)
