-- What the rows of an import do to a ring.
use Rattle.std.specs.Prelude.{List, map, if◌then◌else◌}
use Rattle.std.specs.List.{fold}
use Rattle.ring_model.specs.Ring.{RingRecord, added}
use Rattle.ring_words.specs.Rows.{has_place, same_place}
use Rattle.ring_words.specs.declared.device.Row.{Row}
use Rattle.ring_words.specs.declared.device.Device.{Device}

-- the device, with the row's weight if it has the row's address, port and name
abbrev pub reweighed_by : Row → Device → Device
reweighed_by row device = if same_place device.row row then
    record device { row = record device.row { weight = row.weight } } else device

-- The ring after a row: the device of the row's address, port and name has the row's weight; where
-- there was none, there is one more device.
abbrev pub after_row : RingRecord → Row → RingRecord
after_row ring row = if has_place row ring.devices then record ring {
  devices =
      map (reweighed_by row) ring.devices;
} else added ring row

-- the ring after rows, each of which found what those before it had left
abbrev pub after_rows : RingRecord → List Row → RingRecord
after_rows ring rows = fold after_row ring rows
