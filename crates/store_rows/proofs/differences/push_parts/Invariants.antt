use Rattle.std.proofs.Common.{◌≡◌, ◌++◌, map, take}
use Rattle.std.specs.List.{enumerate_from}
use Rattle.std.specs.Option.{option_map}
use Rattle.store_model.specs.Entries.{name_number_cmp}
use Rattle.store_model.specs.Contents.{part_of}
use Rattle.store_rows.specs.Differences.{is_same_part}
use Rattle.store_rows.specs.RingRows.{part_entry, part_entries_of}
use Rattle.store_rows.specs.Inner.Lacking.{lacking, rows_at}
use Rattle.store_rows.proofs.differences.push_parts.Given as goal

abbrev pub invariant-loop-partition : goal.invariant-loop-partition
invariant-loop-partition l = map part_of l.into.items ≡ map part_of l.fn.into.items ++
    lacking name_number_cmp is_same_part (rows_at part_entries_of l.name
    (option_map (λ ring. ring.now) l.old)) (map (part_entry l.name l.ring.replicas l.ring.seats)
    (take l.partition (enumerate_from 0 l.ring.moved)))
