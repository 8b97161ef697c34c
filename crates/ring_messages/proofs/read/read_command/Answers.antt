use Rattle.std.proofs.Common.{sym, ◌∙◌}
use Rattle.std.proofs.lemmas.Bool.{not-false, not-true}
use Rattle.std.proofs.lemmas.Result.{err_from_is_err_and}
use Rattle.std.proofs.lemmas.Slice.Eq.{bytes_eq-Decides}
use Rattle.serde_json.specs.View.{view}
use Rattle.ring_messages.specs.Commands.{command_data, IsProperCommand}
use Rattle.ring_messages.specs.Inner.Says.{SaysCommand}
use Rattle.ring_messages.proofs.CommandObjects.{command_proper, readable}
use Rattle.ring_messages.proofs.OneText.{no_value, other_text, says_none}
use Rattle.ring_messages.proofs.read.read_command.Goals as goal

pub returns-in_err-value : goal.returns-in_err-value
returns-in_err-value c =
    let p = err_from_is_err_and c.from_residual.result c.from_residual.ensures.1 in
    rw (p.1, p.2)
    (no_value command_data IsProperCommand SaysCommand readable c.as_bytes.result.now
    c.args.text.now c.in_err-value.field-0.0 c.as_bytes.ensures.utf8 c.as_bytes.ensures.value
    c.in_err-value.ensures)

pub returns-in_err-command : goal.returns-in_err-command
returns-in_err-command c =
    let r = c.from_residual-in_err-command in
    let p = err_from_is_err_and r.result r.ensures.1 in
    rw (p.1, p.2)
    (says_none command_data IsProperCommand SaysCommand readable c.as_bytes.result.now
    c.args.text.now (view c.in_ok-value.value) c.in_err-command.field-0.0 c.in_ok-value.ensures.1
    c.as_bytes.ensures.value c.in_err-command.ensures)

pub returns-then-ne : goal.returns-then-ne
returns-then-ne c =
    other_text command_data IsProperCommand SaysCommand readable c.as_bytes.result.now
    c.args.text.now c.as_str.result.now (view c.in_ok-value.value) c.in_ok-command.command
    c.in_ok-value.ensures.1 c.as_bytes.ensures.value c.in_ok-command.ensures
    (c.as_str.ensures.value ∙ c.in_ok-written.ensures)
    (not-true _ (sym c.ne.ensures ∙ c.if-ne.true))

pub returns : goal.returns
returns c =
    let text =
    (bytes_eq-Decides c.as_str.result.now c.args.text.now).0
    (not-false _ (sym c.ne.ensures ∙ c.if-ne.false)) in (
      command_proper (view c.in_ok-value.value) c.in_ok-command.command c.in_ok-command.ensures,
      sym text ∙ c.as_str.ensures.value ∙ c.in_ok-written.ensures,
    )
