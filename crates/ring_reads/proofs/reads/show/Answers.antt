use Rattle.std.proofs.Common.{subst, sym}
use Rattle.std.specs.Prelude.{IsUtf8}
use Rattle.std.proofs.lemmas.Str.{IsUtf8-string_bytes}
use Rattle.ring_metrics.specs.Metrics.{IsMetrics}
use Rattle.ring_reads.specs.Holding.{figures_of, holding_of, hour_now}
use Rattle.ring_reads.specs.Reads.{Shows}
use Rattle.ring_reads.proofs.reads.show.Goals as goal

pub returns-in_ok-rings_json-in-Rings-clause-text : goal.returns-in_ok-rings_json-in-Rings-clause-text
returns-in_ok-rings_json-in-Rings-clause-text c = λ text. subst (λ bytes. IsUtf8 bytes.items)
    (sym c.into_bytes.ensures.value) (IsUtf8-string_bytes c.in_ok-rings_json-in-Rings.field-0)

pub returns-in_ok-status_json-in-Status-clause-text : goal.returns-in_ok-status_json-in-Status-clause-text
returns-in_ok-status_json-in-Status-clause-text c = λ text. subst (λ bytes. IsUtf8 bytes.items)
    (sym c.into_bytes-in-Status.ensures.value) (IsUtf8-string_bytes c.in_ok-status_json-in-Status.field-0)

pub returns-in_ok-held_metrics-in-Metrics-clause-shown : goal.returns-in_ok-held_metrics-in-Metrics-clause-shown
returns-in_ok-held_metrics-in-Metrics-clause-shown c =
    let held = holding_of c.args.held.now in
    subst (λ asked. Shows c.args.names.prefix.now c.args.names.suffix.now held asked
    c.into_bytes-in-Metrics.result.items) (sym c.in-Metrics.is)
    (subst (λ bytes. IsMetrics (figures_of held) held.rings (hour_now held) bytes.items)
    (sym c.into_bytes-in-Metrics.ensures.value) c.in_ok-held_metrics-in-Metrics.ensures)

pub returns-in_ok-held_metrics-in-Metrics-clause-text : goal.returns-in_ok-held_metrics-in-Metrics-clause-text
returns-in_ok-held_metrics-in-Metrics-clause-text c = λ text. subst (λ bytes. IsUtf8 bytes.items)
    (sym c.into_bytes-in-Metrics.ensures.value) (IsUtf8-string_bytes c.in_ok-held_metrics-in-Metrics.field-0)
