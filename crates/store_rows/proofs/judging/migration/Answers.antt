use Rattle.std.proofs.Common.{◌++◌, ap, map, pos, ◌∙◌}
use Rattle.store_rows.specs.Inner.Written.{part_change}
use Rattle.store_rows.proofs.judging.migration.Goals as goal

pub returns : goal.returns
returns c = (
  c.if-not-is_first.false,
  (
    c.in_ok-parts.parts.items,
    c.in_ok-push_parts.ensures ∙ ap (λ xs. xs ++ map (part_change (pos 0)) c.in_ok-parts.parts.items)
        c.new-changes.ensures.items,
    c.in_ok-parts.ensures,
  ),
)
