use Rattle.std.proofs.Common.{codes}
use Rattle.std.proofs.lemmas.Result.{err_from_is_err_and}
use Rattle.serde_json.specs.Find.{get}
use Rattle.serde_json.specs.View.{view}
use Rattle.ring_words.specs.Limits.{greatest_power, greatest_short, most_replicas}
use Rattle.ring_words.specs.declared.command.Act.TheVariants.{Create}
use Rattle.ring_words.specs.declared.command.NewRing.{NewRing}
use Rattle.ring_words.proofs.Spelled.{reads_err}
use Rattle.ring_messages.specs.Commands.{act_fields}
use Rattle.ring_messages.specs.Inner.Says.{HasFields, seen_value}
use Rattle.ring_messages.specs.Reads.{IsNumber}
use Rattle.ring_messages.proofs.commands.new_ring.Goals as goal

pub returns-in_err-bounded : goal.returns-in_err-bounded
returns-in_err-bounded c =
    let d = view c.args.value.now in
    let r = c.from_residual in
    let p = err_from_is_err_and r.result r.ensures.1 in
    rw (p.1, p.2)
    (reads_err (IsNumber (seen_value c.get.result) 1 greatest_power)
    (λ (new : NewRing). HasFields d (act_fields (Create new))) c.in_err-bounded.field-0.0
    c.in_err-bounded.ensures (λ new h. (new.power, rw c.get.ensures h.0)))

pub returns-in_err-bounded-2 : goal.returns-in_err-bounded-2
returns-in_err-bounded-2 c =
    let d = view c.args.value.now in
    let r = c.from_residual-in_err-bounded-2 in
    let p = err_from_is_err_and r.result r.ensures.1 in
    rw (p.1, p.2)
    (reads_err (IsNumber (seen_value c.get-2.result) 1 most_replicas)
    (λ (new : NewRing). HasFields d (act_fields (Create new))) c.in_err-bounded-2.field-0.0
    c.in_err-bounded-2.ensures (λ new h. (new.replicas, rw c.get-2.ensures h.1.0)))

pub returns-in_err-number16_at : goal.returns-in_err-number16_at
returns-in_err-number16_at c =
    let d = view c.args.value.now in
    let r = c.from_residual-in_err-number16_at in
    let p = err_from_is_err_and r.result r.ensures.1 in
    rw (p.1, p.2)
    (reads_err (IsNumber (get (codes "min_hours") d) 0 greatest_short)
    (λ (new : NewRing). HasFields d (act_fields (Create new))) c.in_err-number16_at.field-0.0
    c.in_err-number16_at.ensures (λ new h. (new.min_hours, h.1.1.0)))
