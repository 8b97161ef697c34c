use Rattle.std.proofs.Common.{◌∙◌, ap}
use Rattle.std.specs.Prelude.{◌&&◌, ◌==◌}
use Rattle.store_model.specs.Contents.{Contents, device_of, meta_of, moved_of, part_of}
use Rattle.store_model.specs.Contents.{published_of, ring_of, seat_of}
use Rattle.store_rows.proofs.Empty.{table_empty}
use Rattle.builder_store.proofs.Empty.{and_is, both}
use Rattle.builder_store.proofs.reading.is_empty.Goals as goal

pub returns : goal.returns
returns c = λ m is.
    let rows = c.args.rows.now in
    let t0 = table_empty rows.meta.items meta_of m.meta c.is_empty.result is.meta
    (c.is_empty.ensures ∙ ap (λ n. n == 0) rows.meta.ok.0) in
    let t1 = table_empty rows.rings.items ring_of m.rings c.is_empty-2.result is.rings
    (c.is_empty-2.ensures ∙ ap (λ n. n == 0) rows.rings.ok.0) in
    let t2 = table_empty rows.devices.items device_of m.devices c.is_empty-3.result is.devices
    (c.is_empty-3.ensures ∙ ap (λ n. n == 0) rows.devices.ok.0) in
    let t3 = table_empty rows.seats.items seat_of m.seats c.is_empty-4.result is.seats
    (c.is_empty-4.ensures ∙ ap (λ n. n == 0) rows.seats.ok.0) in
    let t4 = table_empty rows.moved.items moved_of m.moved c.is_empty-5.result is.moved
    (c.is_empty-5.ensures ∙ ap (λ n. n == 0) rows.moved.ok.0) in
    let t5 = table_empty rows.published.items published_of m.published c.is_empty-6.result
    is.published (c.is_empty-6.ensures ∙ ap (λ n. n == 0) rows.published.ok.0) in
    let t6 = is.book.none in
    let t7 = table_empty rows.parts.items part_of m.parts c.is_empty-7.result is.parts
    (c.is_empty-7.ensures ∙ ap (λ n. n == 0) rows.parts.ok.0) in (
      λ h.
          let b7 = both ((((((c.is_empty.result && c.is_empty-2.result) && c.is_empty-3.result) &&
          c.is_empty-4.result) && c.is_empty-5.result) && c.is_empty-6.result) &&
          rows.book.is_empty) c.is_empty-7.result h in
          let b6 = both (((((c.is_empty.result && c.is_empty-2.result) && c.is_empty-3.result) &&
          c.is_empty-4.result) && c.is_empty-5.result) && c.is_empty-6.result)
          rows.book.is_empty b7.0 in
          let b5 = both ((((c.is_empty.result && c.is_empty-2.result) && c.is_empty-3.result) &&
          c.is_empty-4.result) && c.is_empty-5.result) c.is_empty-6.result b6.0 in
          let b4 = both (((c.is_empty.result && c.is_empty-2.result) && c.is_empty-3.result) &&
          c.is_empty-4.result) c.is_empty-5.result b5.0 in
          let b3 = both ((c.is_empty.result && c.is_empty-2.result) && c.is_empty-3.result)
          c.is_empty-4.result b4.0 in
          let b2 = both (c.is_empty.result && c.is_empty-2.result) c.is_empty-3.result b3.0 in
          let b1 = both c.is_empty.result c.is_empty-2.result b2.0 in
          λ i. record {
            meta = t0.0 b1.0 i;
            rings = t1.0 b1.1 i;
            devices = t2.0 b2.1 i;
            seats = t3.0 b3.1 i;
            moved = t4.0 b4.1 i;
            published = t5.0 b5.1 i;
            requests = t6.0 b6.1 i;
            parts = t7.0 b7.1 i;
          },
      λ none.
          (and_is ((((((c.is_empty.result && c.is_empty-2.result) && c.is_empty-3.result) &&
          c.is_empty-4.result) && c.is_empty-5.result) && c.is_empty-6.result) &&
          rows.book.is_empty) c.is_empty-7.result (and_is
          (((((c.is_empty.result && c.is_empty-2.result) && c.is_empty-3.result) &&
          c.is_empty-4.result) && c.is_empty-5.result) && c.is_empty-6.result)
          rows.book.is_empty (and_is ((((c.is_empty.result && c.is_empty-2.result) &&
          c.is_empty-3.result) && c.is_empty-4.result) && c.is_empty-5.result)
          c.is_empty-6.result (and_is (((c.is_empty.result && c.is_empty-2.result) &&
          c.is_empty-3.result) && c.is_empty-4.result) c.is_empty-5.result (and_is
          ((c.is_empty.result && c.is_empty-2.result) && c.is_empty-3.result)
          c.is_empty-4.result (and_is (c.is_empty.result && c.is_empty-2.result)
          c.is_empty-3.result (and_is c.is_empty.result c.is_empty-2.result (t0.1 (ap (λ
          (x : Contents). x.meta) none)) (t1.1 (ap (λ (x : Contents). x.rings) none))) (t2.1
          (ap (λ (x : Contents). x.devices) none))) (t3.1 (ap (λ
          (x : Contents). x.seats) none))) (t4.1 (ap (λ (x : Contents). x.moved) none))) (t5.1
          (ap (λ (x : Contents). x.published) none))) (t6.1 (ap (λ
          (x : Contents). x.requests) none))) (t7.1 (ap (λ (x : Contents). x.parts) none))),
    )
