use Rattle.std.proofs.Common.{◌≡◌, ◌++◌, ◌∷◌, [], true, refl, length-append, rules, arith}
use Rattle.std.specs.Result.{is_ok}
use Rattle.std.proofs.lemmas.Result.{err_from_is_err_and}
use Rattle.csv.specs.Records.{fields_of}
use Rattle.csv_import.specs.Fields.{header}
use Rattle.csv_import.proofs.Records.{one_more_row, wrong_row}
use Rattle.csv_import.proofs.read.rows_from.Goals as goal

pub returns-in_err-read_header-clause-wrong : goal.returns-in_err-read_header-clause-wrong
returns-in_err-read_header-clause-wrong g c = let p = err_from_is_err_and c.from_residual.result
    c.from_residual.ensures.1 in rw (p.1, p.2) (λ text known. c.in_err-read_header.ensures.wrong
    text (c.open-records.ensures.given text known))

pub loop-number-init : goal.loop-number-init
loop-number-init g c = rw c.new-rows.ensures.items (record {
  open_still = c.in_ok-read_header.ensures.open;
  given = λ text known. record {
    good = [];
    given = c.in_ok-read_header.ensures.named text (c.open-records.ensures.given text known);
    are_rows = tt;
  };
  count = refl;
})

pub returns-then-not-branch-clause-rows : goal.returns-then-not-branch-clause-rows
returns-then-not-branch-clause-rows g c = λ text known.
    let before = c.loop-number.invariant.given text known in
    let last = c.in_ok-read_next.ensures.read text (header ∷ before.good) before.given in
    (before.good, rw c.if-not-branch.true at last, before.are_rows)

pub returns-in_err-row-clause-wrong : goal.returns-in_err-row-clause-wrong
returns-in_err-row-clause-wrong g c = let p = err_from_is_err_and c.from_residual-in_err-row.result
    c.from_residual-in_err-row.ensures.1 in rw (p.1, p.2) (λ text known.
    let before = c.loop-number.invariant.given text known in
    let next = c.in_ok-read_next.ensures.read text (header ∷ before.good) before.given in
    wrong_row g.R.Read.remaining text before.good c.loop-number.rows.items c.loop-number.number
    (fields_of c.read_next.new.fields) c.read_next.new.reader _
    (rw c.if-not-branch.false at next) before.are_rows c.loop-number.invariant.count
    c.in_err-row.ensures.fault)

pub loop-number-preserved : goal.loop-number-preserved
loop-number-preserved g c =
    let good : is_ok c.push.result ≡ true = search rules in
    let items = rw good at c.push.ensures.items in
    rw items (record {
      open_still = c.in_ok-read_next.ensures.open;
      given = λ text known.
          let before = c.loop-number.invariant.given text known in
          let next = c.in_ok-read_next.ensures.read text (header ∷ before.good) before.given in
          record {
            good = before.good ++ fields_of c.read_next.new.fields ∷ [];
            given = rw c.if-not-branch.false at next;
            are_rows = one_more_row before.good c.loop-number.rows.items _ _ before.are_rows
                c.in_ok-row.ensures.row;
          };
      count = simp length-append (omega (arith, c.loop-number.invariant.count));
    })
