use Rattle.std.proofs.Common.{◌≤◌, length, arith}
use Rattle.std.proofs.lemmas.List.{take_all}
use Rattle.ring_text.proofs.Written.{numbers_written}
use Rattle.ring_text.proofs.write.push_partition.Goals as goal

pub returns : goal.returns
returns c =
    let whole : length c.split_at.result.1.now ≤ c.loop-id.id-index = omega arith in
    let rest = rw (
      take_all c.loop-id.id-index c.split_at.result.1.now whole,
      c.split_at.ensures.back,
    ) at c.loop-id.invariant in
    let first = rw c.split_at.ensures.front at c.in_ok-write.ensures.bytes in
    numbers_written _ _ _ _ c.args.ids.now c.requires first rest c.in_ok-push_str.ensures.bytes
