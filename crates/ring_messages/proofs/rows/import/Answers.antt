use Rattle.std.proofs.Common.{List, Option, Some, ap, subst, ◌∙◌}
use Rattle.std.proofs.lemmas.Result.{err_from_is_err_and}
use Rattle.serde_json.specs.Data.{Data}
use Rattle.serde_json.specs.View.{items_of, view}
use Rattle.serde_json.specs.declared.value.Value.{Value}
use Rattle.ring_messages.specs.Commands.{act_fields}
use Rattle.ring_messages.specs.Inner.Says.{HasFields, IsRows, ListsRows, seen_value}
use Rattle.ring_words.specs.declared.device.Row.{Row}
use Rattle.ring_words.specs.declared.command.Act.TheVariants.{Import}
use Rattle.ring_words.proofs.Spelled.{reads_err}
use Rattle.ring_messages.proofs.RowLists.{are_rows, array_there, rows_fail, rows_there, views}
use Rattle.ring_messages.proofs.rows.import.Goals as goal

pub returns-in_err-rows : goal.returns-in_err-rows
returns-in_err-rows c =
    let p = err_from_is_err_and c.from_residual.result c.from_residual.ensures.1 in
    let e = c.in_err-rows.field-0.0 in
    let found = seen_value c.get.result in
    let fails = rows_fail found (view c.in-Some.found.now) c.deref.result.now e
    (ap seen_value c.in-Some.is)
    (ap (λ (xs : List Value). Some (items_of (views xs))) c.deref.ensures.value
    ∙ c.in-Some-as_array.ensures)
    c.in_err-rows.ensures in
    rw (p.1, p.2)
    (reads_err (ListsRows found)
    (λ (rs : List Row). HasFields (view c.args.value.now) (act_fields (Import rs))) e fails
    (λ rs h. (rs, rows_there found rs (rw c.get.ensures h.0))))

pub returns : goal.returns
returns c =
    let found = seen_value c.get.result in
    let lists : ListsRows found c.in_ok-rows.rows.items = record {
      lists = views c.deref.result.now;
      is = ap seen_value c.in-Some.is
          ∙ ap Some
          (array_there (view c.in-Some.found.now) _
          (ap (λ (xs : List Value). Some (items_of (views xs))) c.deref.ensures.value
          ∙ c.in-Some-as_array.ensures));
      each = c.in_ok-rows.ensures;
    } in (
      subst (λ (f : Option Data). IsRows f c.new.result) c.get.ensures
          (rw c.new.ensures (are_rows found c.in_ok-rows.rows.items lists)),
      tt,
    )
