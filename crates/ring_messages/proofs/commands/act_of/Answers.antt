use Rattle.std.proofs.Common.{List, codes}
use Rattle.std.proofs.lemmas.Result.{err_from_is_err_and}
use Rattle.serde_json.specs.Find.{get}
use Rattle.serde_json.specs.View.{view}
use Rattle.ring_words.specs.Limits.{greatest_long, greatest_short}
use Rattle.ring_words.specs.declared.command.Act.TheVariants as act
use Rattle.ring_words.specs.declared.command.Foretold.{Foretold}
use Rattle.ring_words.specs.declared.command.Kind.TheVariants as kind
use Rattle.ring_words.specs.declared.command.NewRing.{NewRing}
use Rattle.ring_words.specs.declared.device.Row.{Row}
use Rattle.ring_messages.specs.Commands.{act_fields}
use Rattle.ring_messages.specs.Inner.Says.{HasFields, IsWeight, seen_value}
use Rattle.ring_messages.specs.Reads.{IsNumber}
use Rattle.ring_messages.proofs.Acts.{of_add, of_create, of_foretold, of_hours, of_import, of_keep}
use Rattle.ring_messages.proofs.Acts.{of_rebalance, of_remove, of_weight, part_bad}
use Rattle.ring_messages.proofs.commands.act_of.Goals as goal

pub returns-in_err-new_ring-in-Create : goal.returns-in_err-new_ring-in-Create
returns-in_err-new_ring-in-Create c =
    let d = view c.args.value.now in
    let r = c.from_residual in
    let p = err_from_is_err_and r.result r.ensures.1 in
    rw (p.1, p.2)
    (part_bad (λ (n : NewRing). HasFields d (act_fields (act.Create n))) d kind.Create c.in_err-new_ring-in-Create.field-0.0
    (rw c.in-Create.is at c.requires.word) c.in_err-new_ring-in-Create.ensures (of_create d))

pub returns-in_err-device-in-Add : goal.returns-in_err-device-in-Add
returns-in_err-device-in-Add c =
    let d = view c.args.value.now in
    let r = c.from_residual-in_err-device-in-Add in
    let p = err_from_is_err_and r.result r.ensures.1 in
    rw (p.1, p.2)
    (part_bad (λ (r : Row). HasFields d (act_fields (act.Add r))) d kind.Add c.in_err-device-in-Add.field-0.0
    (rw c.in-Add.is at c.requires.word) c.in_err-device-in-Add.ensures (of_add d))

pub returns-in_err-id-in-SetWeight : goal.returns-in_err-id-in-SetWeight
returns-in_err-id-in-SetWeight c =
    let d = view c.args.value.now in
    let r = c.from_residual-in_err-id-in-SetWeight in
    let p = err_from_is_err_and r.result r.ensures.1 in
    rw (p.1, p.2)
    (part_bad (IsNumber (get (codes "id") d) 0 greatest_short) d kind.SetWeight c.in_err-id-in-SetWeight.field-0.0
    (rw c.in-SetWeight.is at c.requires.word) c.in_err-id-in-SetWeight.ensures ((λ a is h. let p = of_weight d a is h in (p.0, p.2))))

pub returns-in_err-weight-in-SetWeight : goal.returns-in_err-weight-in-SetWeight
returns-in_err-weight-in-SetWeight c =
    let d = view c.args.value.now in
    let r = c.from_residual-in_err-weight-in-SetWeight in
    let p = err_from_is_err_and r.result r.ensures.1 in
    rw (p.1, p.2)
    (part_bad (IsWeight (seen_value c.get.result)) d kind.SetWeight c.in_err-weight-in-SetWeight.field-0.0
    (rw c.in-SetWeight.is at c.requires.word) c.in_err-weight-in-SetWeight.ensures ((λ a is h. let p = of_weight d a is h in (p.1, rw c.get.ensures p.3))))

pub returns-in_err-number16_at-in-Remove : goal.returns-in_err-number16_at-in-Remove
returns-in_err-number16_at-in-Remove c =
    let d = view c.args.value.now in
    let r = c.from_residual-in_err-number16_at-in-Remove in
    let p = err_from_is_err_and r.result r.ensures.1 in
    rw (p.1, p.2)
    (part_bad (IsNumber (get (codes "id") d) 0 greatest_short) d kind.Remove c.in_err-number16_at-in-Remove.field-0.0
    (rw c.in-Remove.is at c.requires.word) c.in_err-number16_at-in-Remove.ensures (of_remove d))

pub returns-in_err-number16_at-in-Keep : goal.returns-in_err-number16_at-in-Keep
returns-in_err-number16_at-in-Keep c =
    let d = view c.args.value.now in
    let r = c.from_residual-in_err-number16_at-in-Keep in
    let p = err_from_is_err_and r.result r.ensures.1 in
    rw (p.1, p.2)
    (part_bad (IsNumber (get (codes "id") d) 0 greatest_short) d kind.Keep c.in_err-number16_at-in-Keep.field-0.0
    (rw c.in-Keep.is at c.requires.word) c.in_err-number16_at-in-Keep.ensures (of_keep d))

pub returns-in_err-number16_at-in-SetHours : goal.returns-in_err-number16_at-in-SetHours
returns-in_err-number16_at-in-SetHours c =
    let d = view c.args.value.now in
    let r = c.from_residual-in_err-number16_at-in-SetHours in
    let p = err_from_is_err_and r.result r.ensures.1 in
    rw (p.1, p.2)
    (part_bad (IsNumber (get (codes "min_hours") d) 0 greatest_short) d kind.SetHours c.in_err-number16_at-in-SetHours.field-0.0
    (rw c.in-SetHours.is at c.requires.word) c.in_err-number16_at-in-SetHours.ensures (of_hours d))

pub returns-in_err-number32_at-in-Rebalance : goal.returns-in_err-number32_at-in-Rebalance
returns-in_err-number32_at-in-Rebalance c =
    let d = view c.args.value.now in
    let r = c.from_residual-in_err-number32_at-in-Rebalance in
    let p = err_from_is_err_and r.result r.ensures.1 in
    rw (p.1, p.2)
    (part_bad (IsNumber (get (codes "seed") d) 0 greatest_long) d kind.Rebalance c.in_err-number32_at-in-Rebalance.field-0.0
    (rw c.in-Rebalance.is at c.requires.word) c.in_err-number32_at-in-Rebalance.ensures (of_rebalance d))

pub returns-in_err-foretold-in-RebalanceAs : goal.returns-in_err-foretold-in-RebalanceAs
returns-in_err-foretold-in-RebalanceAs c =
    let d = view c.args.value.now in
    let r = c.from_residual-in_err-foretold-in-RebalanceAs in
    let p = err_from_is_err_and r.result r.ensures.1 in
    rw (p.1, p.2)
    (part_bad (λ (t : Foretold). HasFields d (act_fields (act.RebalanceAs t))) d kind.RebalanceAs c.in_err-foretold-in-RebalanceAs.field-0.0
    (rw c.in-RebalanceAs.is at c.requires.word) c.in_err-foretold-in-RebalanceAs.ensures (of_foretold d))

pub returns-in_err-import-in-Import : goal.returns-in_err-import-in-Import
returns-in_err-import-in-Import c =
    let d = view c.args.value.now in
    let r = c.from_residual-in_err-import-in-Import in
    let p = err_from_is_err_and r.result r.ensures.1 in
    rw (p.1, p.2)
    (part_bad (λ (rs : List Row). HasFields d (act_fields (act.Import rs))) d kind.Import c.in_err-import-in-Import.field-0.0
    (rw c.in-Import.is at c.requires.word) c.in_err-import-in-Import.ensures (of_import d))
