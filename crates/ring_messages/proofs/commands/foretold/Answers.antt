use Rattle.std.proofs.Common.{codes}
use Rattle.std.proofs.lemmas.Result.{err_from_is_err_and}
use Rattle.serde_json.specs.Find.{get}
use Rattle.serde_json.specs.View.{view}
use Rattle.ring_words.specs.Limits.{greatest_long}
use Rattle.ring_words.specs.declared.command.Act.TheVariants.{RebalanceAs}
use Rattle.ring_words.specs.declared.command.Foretold.{Foretold}
use Rattle.ring_words.proofs.Spelled.{reads_err}
use Rattle.ring_messages.specs.Commands.{act_fields}
use Rattle.ring_messages.specs.Inner.Says.{HasFields}
use Rattle.ring_messages.specs.Reads.{IsNumber}
use Rattle.ring_messages.proofs.commands.foretold.Goals as goal

pub returns-in_err-number32_at : goal.returns-in_err-number32_at
returns-in_err-number32_at c =
    let d = view c.args.value.now in
    let p = err_from_is_err_and c.from_residual.result c.from_residual.ensures.1 in
    rw (p.1, p.2)
    (reads_err (IsNumber (get (codes "hour") d) 0 greatest_long)
    (λ (t : Foretold). HasFields d (act_fields (RebalanceAs t))) c.in_err-number32_at.field-0.0
    c.in_err-number32_at.ensures (λ t h. (t.hour, h.0)))

pub returns-in_err-number32_at-2 : goal.returns-in_err-number32_at-2
returns-in_err-number32_at-2 c =
    let d = view c.args.value.now in
    let r = c.from_residual-in_err-number32_at-2 in
    let p = err_from_is_err_and r.result r.ensures.1 in
    rw (p.1, p.2)
    (reads_err (IsNumber (get (codes "seed") d) 0 greatest_long)
    (λ (t : Foretold). HasFields d (act_fields (RebalanceAs t))) c.in_err-number32_at-2.field-0.0
    c.in_err-number32_at-2.ensures (λ t h. (t.seed, h.1.0)))

pub returns-in_err-number32_at-3 : goal.returns-in_err-number32_at-3
returns-in_err-number32_at-3 c =
    let d = view c.args.value.now in
    let r = c.from_residual-in_err-number32_at-3 in
    let p = err_from_is_err_and r.result r.ensures.1 in
    rw (p.1, p.2)
    (reads_err (IsNumber (get (codes "version") d) 0 greatest_long)
    (λ (t : Foretold). HasFields d (act_fields (RebalanceAs t))) c.in_err-number32_at-3.field-0.0
    c.in_err-number32_at-3.ensures (λ t h. (t.version, h.1.1.0)))

pub returns : goal.returns
returns c = (
  c.in_ok-number32_at.ensures,
  (c.in_ok-number32_at-2.ensures, (c.in_ok-number32_at-3.ensures, tt)),
)
