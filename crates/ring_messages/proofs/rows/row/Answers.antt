use Rattle.std.proofs.Common.{Option, Bor}
use Rattle.std.proofs.lemmas.Result.{err_from_is_err_and}
use Rattle.serde_json.specs.declared.value.Value.{Value}
use Rattle.ring_words.specs.Limits.{greatest_short}
use Rattle.ring_words.specs.Texts.{is_device_name}
use Rattle.ring_words.specs.declared.device.Row.{Row}
use Rattle.ring_words.proofs.Spelled.{reads_err}
use Rattle.ring_messages.specs.Inner.Says.{IsAddress, IsWeight, SaysRow, seen_value}
use Rattle.ring_messages.specs.Reads.{IsName, IsNumber}
use Rattle.ring_messages.proofs.rows.row.Goals as goal

-- what these values say is a row
abbrev Says : (region zone address port name weight : Option (Bor Value)) → Row → Type 0
Says region zone address port name weight = SaysRow (seen_value region) (seen_value zone)
    (seen_value address) (seen_value port) (seen_value name) (seen_value weight)

pub returns-in_err-region : goal.returns-in_err-region
returns-in_err-region c =
    let a = c.args in
    let r = c.from_residual in
    let p = err_from_is_err_and r.result r.ensures.1 in
    rw (p.1, p.2)
    (reads_err (IsNumber (seen_value c.args.region) 0 greatest_short)
    (Says a.region a.zone a.address a.port a.name a.weight) c.in_err-region.field-0.0
    c.in_err-region.ensures (λ r h. (r.region, h.0)))

pub returns-in_err-zone : goal.returns-in_err-zone
returns-in_err-zone c =
    let a = c.args in
    let r = c.from_residual-in_err-zone in
    let p = err_from_is_err_and r.result r.ensures.1 in
    rw (p.1, p.2)
    (reads_err (IsNumber (seen_value c.args.zone) 0 greatest_short)
    (Says a.region a.zone a.address a.port a.name a.weight) c.in_err-zone.field-0.0
    c.in_err-zone.ensures (λ r h. (r.zone, h.1.0)))

pub returns-in_err-address : goal.returns-in_err-address
returns-in_err-address c =
    let a = c.args in
    let r = c.from_residual-in_err-address in
    let p = err_from_is_err_and r.result r.ensures.1 in
    rw (p.1, p.2)
    (reads_err (IsAddress (seen_value c.args.address))
    (Says a.region a.zone a.address a.port a.name a.weight) c.in_err-address.field-0.0
    c.in_err-address.ensures (λ r h. (r.address, h.1.1.0)))

pub returns-in_err-port : goal.returns-in_err-port
returns-in_err-port c =
    let a = c.args in
    let r = c.from_residual-in_err-port in
    let p = err_from_is_err_and r.result r.ensures.1 in
    rw (p.1, p.2)
    (reads_err (IsNumber (seen_value c.args.port) 1 greatest_short)
    (Says a.region a.zone a.address a.port a.name a.weight) c.in_err-port.field-0.0
    c.in_err-port.ensures (λ r h. (r.port, h.1.1.1.0)))

pub returns-in_err-weight : goal.returns-in_err-weight
returns-in_err-weight c =
    let a = c.args in
    let r = c.from_residual-in_err-weight in
    let p = err_from_is_err_and r.result r.ensures.1 in
    rw (p.1, p.2)
    (reads_err (IsWeight (seen_value c.args.weight))
    (Says a.region a.zone a.address a.port a.name a.weight) c.in_err-weight.field-0.0
    c.in_err-weight.ensures (λ r h. (r.weight, h.1.1.1.1.1.0)))

pub returns-in_err-name : goal.returns-in_err-name
returns-in_err-name c =
    let a = c.args in
    let r = c.from_residual-in_err-name in
    let p = err_from_is_err_and r.result r.ensures.1 in
    rw (p.1, p.2)
    (reads_err (IsName is_device_name (seen_value c.args.name))
    (Says a.region a.zone a.address a.port a.name a.weight) c.in_err-name.field-0.0
    c.in_err-name.ensures (λ r h. (r.name, h.1.1.1.1.0)))
