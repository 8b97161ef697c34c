use Rattle.std.proofs.Common.{◌≤◌, rules, ◌≡◌, subst, sym, ap, refl, ◌∙◌, length, arith}
use Rattle.std.specs.FinMap.{entries}
use Rattle.std.proofs.lemmas.Fn.{always_returns_same}
use Rattle.std.proofs.lemmas.Result.{err_from_is_err_and}
use Rattle.ring_words.specs.Limits.{most_numbers}
use Rattle.request_book.specs.Run.{last_hour}
use Rattle.store_model.specs.declared.rows.RequestRow.{RequestRow}
use Rattle.store_rows.specs.Inner.Books.{IsSaid}
use Rattle.store_rows.proofs.BookOpens.{as_many, said_of}
use Rattle.store_rows.proofs.BookOpens.{spells_likewise}
use Rattle.store_rows.proofs.BookRows.{map_said, book_said, length_said}
use Rattle.std.proofs.lemmas.List.Sorted.{IsPermutation-refl}
use Rattle.store_rows.proofs.books.judge_book.Goals as goal

pub returns : goal.returns
returns c = λ requests all.
    let sorted = c.sort_unstable_by_key.new.self.items in
    let found = c.in_ok-last.ensures in
    let book = found.0 in
    let said = subst (λ rs. IsSaid rs book) c.deref.ensures.value found.1 in
    let moved = c.sort_unstable_by_key.ensures.permutation in
    let count = length_said c.args.rows.items sorted requests moved all book said in
    let few : length sorted ≤ most_numbers = omega (arith, c.sort_unstable_by_key.ensures.len) in
    record {
      book = book;
      is = book_said c.args.rows.items sorted requests moved all book said few;
      stands = map_said c.args.rows.items sorted requests moved all book said;
      last = found.2;
      count = omega arith;
      callers = found.3;
    }

pub returns-then-len-gt-MOST_NUMBERS : goal.returns-then-len-gt-MOST_NUMBERS
returns-then-len-gt-MOST_NUMBERS c = λ requests all found says.
    let items = c.args.rows.items in
    let many = as_many items items says.book says.is (IsPermutation-refl items) (all ∙ ap entries says.stands)
    in
    let few = says.is.count in
    absurd (omega arith)

pub returns-in_err-last : goal.returns-in_err-last
returns-in_err-last c = λ requests all.
    let sorted = c.sort_unstable_by_key.new.self.items in
    let moved = c.sort_unstable_by_key.ensures.permutation in
    let up = c.sort_unstable_by_key.ensures.sorted (λ (r : RequestRow). r.place)
    (always_returns_same _ (λ a r. r ≡ a.0.now.place) _ (λ a r q k. search rules)) in
    let p = err_from_is_err_and c.from_residual.result c.from_residual.ensures.1 in
    rw (p.1, p.2) (spells_likewise _ _ c.in_err-last.field-0.0 c.in_err-last.ensures (λ found says. (
      (last_hour 0 says.book, found.callers),
      (
        says.book,
        subst (λ rs. IsSaid rs says.book) (sym c.deref.ensures.value) (said_of c.args.rows.items
            sorted says.book says.is moved (all ∙ ap entries says.stands) up),
        refl,
        says.callers,
      ),
    )))
