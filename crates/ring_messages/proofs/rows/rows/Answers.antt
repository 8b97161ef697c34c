use Rattle.std.proofs.Common.{arith, List, map, subst}
use Rattle.std.specs.List.{AllZip}
use Rattle.std.proofs.lemmas.List.{take_all}
use Rattle.std.proofs.lemmas.Result.{err_from_is_err_and}
use Rattle.serde_json.specs.View.{view}
use Rattle.serde_json.specs.declared.value.Value.{Value}
use Rattle.ring_messages.specs.Inner.Says.{ListsRow}
use Rattle.ring_messages.proofs.RowLists.{list_fails, one_more}
use Rattle.ring_messages.proofs.rows.rows.Goals as goal

pub returns-in_err-row : goal.returns-in_err-row
returns-in_err-row c =
    let p = err_from_is_err_and c.from_residual-in_err-row.result
    c.from_residual-in_err-row.ensures.1 in
    rw (p.1, p.2)
    (list_fails c.args.lists.now c.loop-list.list-index c.list-item.result
    c.in_err-row.field-0.0 (omega arith) c.list-item.is c.in_err-row.ensures)

pub loop-list-preserved : goal.loop-list-preserved
loop-list-preserved c =
    rw c.in_default.ensures.items
    (one_more c.args.lists.now c.loop-list.rows.items c.loop-list.list-index c.list-item.result
    c.in_ok-row.row (omega arith) c.list-item.is c.loop-list.invariant c.in_ok-row.ensures)

pub returns : goal.returns
returns c = subst (λ (lists : List Value). AllZip ListsRow (map view lists) c.loop-list.rows.items)
    (take_all c.loop-list.list-index c.args.lists.now c.loop-list-test.false) c.loop-list.invariant
