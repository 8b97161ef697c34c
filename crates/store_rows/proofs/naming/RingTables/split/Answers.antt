use Rattle.std.proofs.Common.{ℕ, ℤ, List}
use Rattle.store_model.specs.Contents.{device_of, moved_of, part_of, published_of, seat_of}
use Rattle.store_model.specs.Entries as rows
use Rattle.store_rows.proofs.Ordered.{devices_named, parts_named, texts_named}
use Rattle.store_rows.proofs.Parting.{devices_of, moves_named, moves_of, parts_are, parts_if}
use Rattle.store_rows.proofs.Parting.{parts_unless, seats_named, seats_of, texts_of}
use Rattle.store_rows.specs.RingRows.{part_entries_of}
use Rattle.store_rows.proofs.naming.RingTables.split.Goals as goal

pub returns : goal.returns
returns c = λ is_first e rings by is say.
    let self = c.args.self in
    let name = c.args.name.now in
    let devices = parts_are (λ (x : rows.NameNumber × rows.Device). x.0.0) devices_of devices_named
    device_of name e rings self.devices.now _ _ by is say.devices
    c.split_named-devices.ensures.whole c.split_named-devices.ensures.parted in
    let published = parts_are (λ (x : rows.NameNumber × List ℕ). x.0.0) texts_of texts_named
    published_of name e rings self.published.now _ _ by is say.published
    c.split_named-published.ensures.whole c.split_named-published.ensures.parted in
    let seats = parts_if (λ (x : rows.SeatKey × ℤ). x.0.0) seats_of seats_named seat_of name is_first
    e rings self.seats.now _ _ by is say.seats c.split_named-seats.ensures.whole
    c.split_named-seats.ensures.parted in
    let moved = parts_if (λ (x : rows.NameNumber × ℤ). x.0.0) moves_of moves_named moved_of name
    is_first e rings self.moved.now _ _ by is say.moved c.split_named-moved.ensures.whole
    c.split_named-moved.ensures.parted in
    let parts = parts_unless (λ (x : rows.NameNumber × rows.Part). x.0.0) part_entries_of parts_named
    part_of name is_first e rings self.parts.now _ _ by is say.parts
    c.split_named-parts.ensures.whole c.split_named-parts.ensures.parted in (
      record {
        devices = devices.0;
        published = published.0;
        seats = seats.0;
        moved = moved.0;
        parts = parts.0;
      },
      record {
        devices = devices.1;
        published = published.1;
        seats = seats.1;
        moved = moved.1;
        parts = parts.1;
      },
    )
