-- What a row of a request tells.
use Rattle.sqlite_value.specs.Order.{Row, column, bytes}
use Rattle.sqlite_rules.specs.Edit.{id_in}
use Rattle.store_model.specs.Entries.{Request}

-- What a row of the columns `place`, `hour`, `command` and `reply` tells.
abbrev pub told : Row → Request
told r = record {
  place = id_in (column r 0);
  hour = id_in (column r 1);
  command = bytes (column r 2);
  reply = bytes (column r 3);
}
