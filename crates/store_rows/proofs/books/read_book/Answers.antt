use Rattle.std.proofs.Common.{◌∙◌, Err, ap, length, refl}
use Rattle.std.specs.Prelude.{◌==◌}
use Rattle.ring_words.specs.Spelling.{Reads}
use Rattle.ring_words.specs.declared.spelling.SpellingFault.TheVariants.{Bad}
use Rattle.request_book.specs.Run.{last_hour}
use Rattle.store_model.specs.Contents.{request_of}
use Rattle.store_rows.specs.Judging.{IsBookFound}
use Rattle.store_rows.proofs.Empty.{table_empty}
use Rattle.store_rows.proofs.Used.{some_bounds}
use Rattle.store_rows.proofs.books.read_book.Goals as goal
use Rattle.store_rows.proofs.books.read_book.Goals.{in-Err-Bad, in-Ok}

pub returns : goal.returns
returns c = λ requests all. record {
  none = table_empty c.args.rows.items request_of requests c.is_empty-is_empty.result all
      (c.is_empty-is_empty.ensures ∙ ap (λ n. n == 0) c.args.rows.ok.0);
  found = elim c.match-judge_book.branch [
    | in-Ok w ↦ rw w.found-is (w.in-Ok.ensures requests all)
    | in-Err-Bad w ↦
        let bad : Reads (IsBookFound requests) (Err Bad) = rw w.in-Err-Bad.field-0-is at
        (w.in-Err-Bad.ensures requests all) in
        rw w.found-is (λ book held stands. bad (record {
          count = length book;
          last = last_hour 0 book;
          callers = (some_bounds book).0;
        }) (record {
          book = book;
          is = held;
          stands = stands;
          last = refl;
          count = refl;
          callers = (some_bounds book).1;
        }))
  ];
}
