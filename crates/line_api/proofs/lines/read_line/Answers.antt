use Rattle.std.proofs.Common.{◌≡◌, sym, ◌∙◌, rules}
use Rattle.std.proofs.lemmas.Result.{err_from_is_err_and}
use Rattle.ring_words.specs.declared.command.Command.{Command}
use Rattle.ring_words.specs.declared.request.Key.{Key}
use Rattle.ring_messages.specs.Message.{IsMessage}
use Rattle.ring_words.proofs.Spelled.{reads_err}
use Rattle.line_api.specs.Lines.{Asks}
use Rattle.line_api.proofs.Asking.{asks_text, asks_message}
use Rattle.line_api.proofs.lines.read_line.Goals as goal

pub returns-in_default : goal.returns-in_default
returns-in_default c = λ x asks. c.in_default.ensures.cases.0 (asks_text c.args.line.now x asks)

pub returns-in_err-key : goal.returns-in_err-key
returns-in_err-key c =
    let p = err_from_is_err_and c.from_residual.result c.from_residual.ensures.1 in
    let line : c.args.line.now ≡ c.in-Ok.text.now = sym c.in-Ok.ensures.cases.0 in
    let found = c.in-Some.ensures.found in
    rw (p.1, p.2) (reads_err (λ (m : Key × Command). IsMessage c.as_bytes.result.now m.0 m.1)
    (Asks c.args.line.now) c.in_err-key.field-0.0 c.in_err-key.ensures
    (λ x asks. (
      (x.key, x.command),
      rw c.as_bytes.ensures.value (asks_message c.args.line.now
          c.in-Some.message.now c.in-Some.hour found.0 (line ∙ found.1) x asks),
    )))

pub returns : goal.returns
returns c = search rules
