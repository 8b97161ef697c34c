use Rattle.std.proofs.Common.{arith, codes}
use Rattle.std.proofs.lemmas.Result.{err_from_is_err_and}
use Rattle.serde_json.specs.Find.{get}
use Rattle.serde_json.specs.View.{view}
use Rattle.ring_words.specs.Limits.{greatest_long}
use Rattle.ring_words.specs.Texts.{is_label}
use Rattle.ring_words.specs.declared.command.Command.{Command}
use Rattle.ring_words.specs.declared.request.Key.{Key}
use Rattle.ring_words.proofs.Spelled.{reads_err}
use Rattle.ring_messages.specs.Inner.Says.{SaysCommand, SaysDelivery, seen_value}
use Rattle.ring_messages.specs.Reads.{IsName, IsNumber}
use Rattle.ring_messages.proofs.read.delivery.Goals as goal

pub returns-in_err-caller : goal.returns-in_err-caller
returns-in_err-caller c =
    let d = view c.args.value.now in
    let p = err_from_is_err_and c.from_residual.result c.from_residual.ensures.1 in
    rw (p.1, p.2)
    (reads_err (IsName is_label (seen_value c.get.result))
    (λ (m : Key × Command). SaysDelivery d m.0 m.1) c.in_err-caller.field-0.0
    c.in_err-caller.ensures (λ m h. (m.0.caller, rw c.get.ensures h.caller)))

pub returns-in_err-number : goal.returns-in_err-number
returns-in_err-number c =
    let d = view c.args.value.now in
    let r = c.from_residual-in_err-number in
    let p = err_from_is_err_and r.result r.ensures.1 in
    rw (p.1, p.2)
    (reads_err (IsNumber (get (codes "number") d) 0 greatest_long)
    (λ (m : Key × Command). SaysDelivery d m.0 m.1) c.in_err-number.field-0.0
    c.in_err-number.ensures (λ m h. (m.0.number, h.number)))

pub returns-in_err-command : goal.returns-in_err-command
returns-in_err-command c =
    let d = view c.args.value.now in
    let r = c.from_residual-in_err-command in
    let p = err_from_is_err_and r.result r.ensures.1 in
    rw (p.1, p.2)
    (reads_err (SaysCommand d) (λ (m : Key × Command). SaysDelivery d m.0 m.1)
    c.in_err-command.field-0.0 c.in_err-command.ensures (λ m h. (m.1, h.command)))

pub returns : goal.returns
returns c =
    let own = c.own_count-own.ensures in
    record {
      caller = rw c.get.ensures at c.in_ok-caller.ensures;
      number = c.in_ok-number.ensures;
      command = c.in_ok-command.ensures;
      count = omega arith;
    }
