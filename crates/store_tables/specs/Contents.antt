-- What the trees of a database contain.
use Rattle.sqlite_trees.specs.Tree.{Trees}
use Rattle.store_model.specs.Contents.{Contents}
use Rattle.store_tables.specs.Entries.{map_of, meta_rows, ring_rows, device_rows, seat_rows}
use Rattle.store_tables.specs.Entries.{moved_rows, published_rows, request_rows, part_rows}

-- What the trees of a database contain, where it has the tables of the store.
abbrev pub contents_of : Trees → Contents
contents_of trees = record {
  meta = map_of meta_rows (trees meta_rows.plain.tree);
  rings = map_of ring_rows (trees ring_rows.plain.tree);
  devices = map_of device_rows (trees device_rows.plain.tree);
  seats = map_of seat_rows (trees seat_rows.plain.tree);
  moved = map_of moved_rows (trees moved_rows.plain.tree);
  published = map_of published_rows (trees published_rows.plain.tree);
  requests = map_of request_rows (trees request_rows.plain.tree);
  parts = map_of part_rows (trees part_rows.plain.tree);
}
