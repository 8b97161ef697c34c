use Rattle.std.proofs.Common.{refl}
use Rattle.builder_store.proofs.Made.{prepared_alone}
use Rattle.builder_store.proofs.making.rows_alone.Goals as goal

pub returns : goal.returns
returns c = λ hour small.
    let change = c.in_ok-change in (
      prepared_alone c.args.rings.now change.change.0 change.ensures.leads hour,
      record {
        rings = change.ensures.rings;
        texts = c.requires;
        book = c.nothing_is_holdable.ensures.book;
        hour = refl;
        small = small;
      },
    )
