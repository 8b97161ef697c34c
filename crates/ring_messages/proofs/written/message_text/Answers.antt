use Rattle.std.proofs.Common.{subst, sym}
use Rattle.std.specs.Prelude.{IsUtf8}
use Rattle.std.proofs.lemmas.Str.{IsUtf8-string_bytes}
use Rattle.ring_messages.specs.Message.{IsMessage, message_data}
use Rattle.ring_messages.proofs.Keyed.{is_message}
use Rattle.ring_messages.proofs.Putting.{alone}
use Rattle.ring_messages.proofs.written.message_text.Goals as goal

pub returns-clause-text : goal.returns-clause-text
returns-clause-text c =
    let d = message_data c.args.key.now c.args.command.now in
    c.text_of.ensures d
    (alone d _ _ c.in_ok-writer.ensures.tokens c.in_ok-write_message.ensures.adds.0)

pub returns-clause-read : goal.returns-clause-read
returns-clause-read c =
    let key = c.args.key.now in
    let command = c.args.command.now in
    let is = returns-clause-text c in
    subst (λ bytes. IsMessage bytes key command) (sym is)
    (is_message key command c.key_is_proper.ensures.named c.key_is_proper.ensures.fits
    c.command_is_proper.ensures (subst IsUtf8 is (IsUtf8-string_bytes c.text_of.result)))
