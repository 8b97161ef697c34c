use Rattle.std.proofs.Common.{◌≡◌, ℕ, List, Option, None, get_or, ap, ◌∙◌, arith}
use Rattle.ring_place.specs.Made.{changed_in, stamped}
use Rattle.ring_place.specs.Made.{row_at}
use Rattle.ring_place.proofs.Rows.IndexRanges.{map_more, sum_more}
use Rattle.ring_place.proofs.rebalances.moves.Goals as goal

pub loop-partition-preserved : goal.loop-partition-preserved
loop-partition-preserved c =
    let n = c.loop-partition.partition in
    let changed = λ (partition : ℕ). changed_in (row_at c.args.old.now partition)
    (row_at c.args.new.now partition) in
    let count : c.count_changed-count.result ≡ changed n =
    c.count_changed-count.ensures.count ∙ ap (λ r. changed_in r c.row-in-loop-partition.result.now)
    c.row.ensures ∙ ap (changed_in (row_at c.args.old.now n)) c.row-in-loop-partition.ensures in
    let stamp : c.stamp.result ≡ stamped c.args.hour (changed n) (get_or c.args.ring.now.moved n
    None) =
    c.stamp.ensures ∙ ap (λ (k : ℕ). stamped c.args.hour k (get_or c.moves-before-items.result.now n
    None)) count
    ∙ ap (λ (xs : List (Option ℕ)). stamped c.args.hour (changed n) (get_or xs n None))
    c.moves-before-items.ensures.value in
    record {
      moved = map_more (λ partition. stamped c.args.hour (changed partition)
          (get_or c.args.ring.now.moved partition None)) n c.loop-partition.moved.items
          c.push.new.self.items c.stamp.result c.loop-partition.invariant.moved
          c.in_ok-push.ensures.items stamp;
      changed = (let before = c.loop-partition.invariant.changed in let more = sum_more changed n in
          omega (arith, before, more, count));
      few = (let before = c.loop-partition.invariant.few in let most =
          c.count_changed-count.ensures.few in omega (arith, before, most));
    }
