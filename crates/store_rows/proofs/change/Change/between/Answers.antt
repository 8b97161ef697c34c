use Rattle.std.proofs.Common.{◌∙◌, ap, is_none, subst, sym, ℕ, List, []}
use Rattle.std.proofs.lemmas.Result.{IfOk-weaker}
use Rattle.std.specs.List.{count_by}
use Rattle.ring_model.specs.Ring.{RingRecord}
use Rattle.ring_words.specs.declared.device.Device.{Device}
use Rattle.store_rows.specs.Inner.Lacking.{device_in, rows_at}
use Rattle.store_rows.specs.Inner.Written.{AreRowsOfRing}
use Rattle.store_rows.proofs.AtName.{gone_of_none, gone_of_one, rows_of_none, rows_of_one}
use Rattle.store_rows.proofs.change.Change.between.Goals as goal

pub returns-in_default-clause-leads : goal.returns-in_default-clause-leads
returns-in_default-clause-leads c =
    let old = c.args.old.now in
    let new = c.args.new.now in
    let p = c.rings_are_proper.ensures in
    let q = c.rings_are_proper-2.ensures in
    IfOk-weaker c.of_rows.result _ _ (λ change leads changed. leads old new p q changed.grows
    (rows_of_none c.args.name.now old new p q changed c.none.result (sym c.in_default.ensures)
    c.none.ensures)) c.of_rows.ensures.leads

pub returns-in_default-clause-counted : goal.returns-in_default-clause-counted
returns-in_default-clause-counted c =
    let old = c.args.old.now in
    let new = c.args.new.now in
    let p = c.rings_are_proper.ensures in
    let q = c.rings_are_proper-2.ensures in
    IfOk-weaker c.of_rows.result _ _ (λ change counted changed. counted old new p q changed.grows
    (rows_of_none c.args.name.now old new p q changed c.none.result (sym c.in_default.ensures)
    c.none.ensures) (gone_of_none c.args.name.now old new p q changed (sym
    c.in_default.ensures))) c.of_rows.ensures.counted

pub returns-clause-leads : goal.returns-clause-leads
returns-clause-leads c =
    let name = c.args.name.now in
    let old = c.args.old.now in
    let new = c.args.new.now in
    let p = c.rings_are_proper.ensures in
    let q = c.rings_are_proper-2.ensures in
    let ring = c.in-Some.ring.now in
    let made = c.in_ok-rows.rows in
    let are = subst (λ o. AreRowsOfRing name o ring made) c.get-before.ensures c.in_ok-rows.ensures in
    IfOk-weaker c.of_rows-2.result _ _ (λ change leads changed. leads old new p q changed.grows
    (rows_of_one name old new p q changed ring made (sym c.in-Some.ensures) are))
    c.of_rows-2.ensures.leads

pub returns-clause-counted : goal.returns-clause-counted
returns-clause-counted c =
    let name = c.args.name.now in
    let old = c.args.old.now in
    let new = c.args.new.now in
    let p = c.rings_are_proper.ensures in
    let q = c.rings_are_proper-2.ensures in
    let ring = c.in-Some.ring.now in
    let made = c.in_ok-rows.rows in
    let are = subst (λ o. AreRowsOfRing name o ring made) c.get-before.ensures c.in_ok-rows.ensures in
    let before = c.devices_of.ensures.value ∙ ap (rows_at (λ (e : List ℕ × RingRecord). e.1.devices)
    []) c.get-before.ensures in
    let gone = c.count_gone-gone.ensures.value
    ∙ ap (λ ds. count_by (λ (d : Device). is_none (device_in d.id ds)) c.devices_of.result.now)
    c.devices.ensures.value
    ∙ ap (count_by (λ (d : Device). is_none (device_in d.id ring.devices))) before in
    IfOk-weaker c.of_rows-2.result _ _ (λ change counted changed. counted old new p q changed.grows
    (rows_of_one name old new p q changed ring made (sym c.in-Some.ensures) are)
    (gone_of_one name old new p q changed ring c.count_gone-gone.result (sym c.in-Some.ensures)
    gone)) c.of_rows-2.ensures.counted
