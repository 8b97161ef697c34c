use Rattle.std.proofs.Common.{map, ap, sym, subst, ◌∙◌, ◌≡◌, ◌+◌, length, arith}
use Rattle.store_model.specs.Contents.{device_of}
use Rattle.store_model.specs.Entries as rows
use Rattle.store_model.specs.declared.rows.DeviceRow.{DeviceRow}
use Rattle.store_rows.specs.Differences.{IsChange}
use Rattle.store_rows.proofs.Changing.{applied, counted, written, mapped_keys}
use Rattle.store_rows.proofs.change.Change.of_rows.Goals as goal

pub returns-clause-leads : goal.returns-clause-leads
returns-clause-leads c = λ old new p q grows are.
    let made = c.args.rows in
    let keys = c.in_ok-keys.ensures ∙ ap (map (λ (r : DeviceRow). (device_of r).0))
    c.deref.ensures.value ∙ mapped_keys made.dropped.items
    ∙ ap (map (λ (e : rows.NameNumber × rows.Device). e.0)) are.dropped in
    subst (IsChange old new) (sym c.in_ok-rows.ensures) (record {
      applied = applied old new p q grows c.in_ok-keys.keys.items made.rings.items
          made.devices.items made.known made.parts.items made.texts.items keys are.rings are.devices
          are.parts are.texts;
      written = written old new p q grows c.in_ok-keys.keys.items made.rings.items
          made.devices.items made.known made.parts.items made.texts.items keys are.rings are.devices
          are.parts are.texts are.added;
    })

pub returns-clause-counted : goal.returns-clause-counted
returns-clause-counted c = λ old new p q grows are gone content state.
    let made = c.args.rows in
    let keys = c.in_ok-keys.ensures ∙ ap (map (λ (r : DeviceRow). (device_of r).0))
    c.deref.ensures.value ∙ mapped_keys made.dropped.items
    ∙ ap (map (λ (e : rows.NameNumber × rows.Device). e.0)) are.dropped in
    let total = counted old new p q grows c.in_ok-keys.keys.items made.rings.items
    made.devices.items made.known made.parts.items made.texts.items keys are.rings are.devices
    are.parts are.texts content state c.args.gone_devices gone in
    let lengths : c.len.result + c.len-2.result + c.len-3.result + c.len-4.result +
    c.args.gone_devices
    ≡ length made.rings.items + length made.devices.items + length made.parts.items + length
    made.texts.items + c.args.gone_devices = omega arith in
    lengths ∙ total
