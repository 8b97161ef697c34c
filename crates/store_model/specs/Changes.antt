-- What a list of changes, and what a decided request, makes of the contents.
use Rattle.std.specs.Prelude.{List, [], ◌∷◌}
use Rattle.store_model.specs.declared.change.RowChange.{RowChange}
use Rattle.store_model.specs.declared.change.RowChange.TheVariants.{DropDevice, PutRing}
use Rattle.store_model.specs.declared.change.RowChange.TheVariants.{AddDevice, PutPart, AddPart}
use Rattle.store_model.specs.declared.change.RowChange.TheVariants.{PutPublished}
use Rattle.store_model.specs.declared.rows.MetaRow.{MetaRow}
use Rattle.store_model.specs.declared.rows.RequestRow.{RequestRow}
use Rattle.store_model.specs.Contents.{Contents, device_key, ring_of, device_of, part_of}
use Rattle.store_model.specs.Contents.{published_of, request_of, meta_of, without_device}
use Rattle.store_model.specs.Contents.{with_ring_row, with_device_row, with_part}
use Rattle.store_model.specs.Contents.{with_published_row}
use Rattle.store_model.specs.Contents.{with_request, with_meta_row, without_seats, without_moved}

-- What one change makes of the contents.
abbrev pub with_change : Contents → RowChange → Contents
with_change c (DropDevice key) = without_device c (device_key key)
with_change c (PutRing row) = with_ring_row c (ring_of row).0 (ring_of row).1
with_change c (AddDevice row) = with_device_row c (device_of row).0 (device_of row).1
with_change c (PutPart row) = with_part c (part_of row).0 (part_of row).1
with_change c (AddPart row) = with_part c (part_of row).0 (part_of row).1
with_change c (PutPublished row) = with_published_row c (published_of row).0 (published_of row).1

-- What the changes make of the contents, one after another.
abbrev pub changed_all : Contents → List RowChange → Contents
changed_all c [] = c
changed_all c (change ∷ changes) = changed_all (with_change c change) changes

-- The contents with the request.
abbrev pub with_kept : Contents → RequestRow → Contents
with_kept c request = let asked = request_of request in with_request c asked.0 asked.1

-- The contents with the request, and with the row on the whole store.
abbrev pub with_decided : Contents → RequestRow → MetaRow → Contents
with_decided c request meta =
    let asked = request_of request in
    let now = meta_of meta in
    with_meta_row (with_request c asked.0 asked.1) now.0 now.1

-- The contents with the changes, without the rows of schema 1, and with the row on the whole store.
abbrev pub prepared : Contents → List RowChange → MetaRow → Contents
prepared c changes meta =
    let now = meta_of meta in
    with_meta_row (without_moved (without_seats (changed_all c changes))) now.0 now.1
