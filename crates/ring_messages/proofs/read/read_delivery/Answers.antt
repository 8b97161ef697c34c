use Rattle.std.proofs.Common.{sym, subst, ◌∙◌}
use Rattle.std.proofs.lemmas.Option.{same_Some}
use Rattle.serde_json.specs.Data.{Data}
use Rattle.serde_json.specs.View.{view}
use Rattle.ring_words.specs.declared.command.Command.{Command}
use Rattle.ring_words.specs.declared.request.Key.{Key}
use Rattle.ring_messages.specs.Message.{IsDelivery, IsMessage}
use Rattle.ring_messages.specs.Inner.Says.{SaysDelivery}
use Rattle.ring_messages.proofs.Messages.{is_delivery, says_delivery}
use Rattle.ring_words.proofs.Spelled.{reads_same}
use Rattle.ring_messages.proofs.read.read_delivery.Goals as goal

pub returns : goal.returns
returns c =
    let d : Data = view c.in_ok-value.value in
    let read = c.in_ok-value.ensures in
    reads_same (λ (m : Key × Command). SaysDelivery d m.0 m.1)
    (λ (m : Key × Command). IsMessage c.args.bytes.now m.0 m.1) c.delivery.result
    (λ m h. record { utf8 = read.0; value = d; is = read.1; delivery = is_delivery d m.0 m.1 h })
    (λ m h. says_delivery d m.0 m.1
    (subst (λ (x : Data). IsDelivery x m.0 m.1) (same_Some _ _ (sym h.is ∙ read.1)) h.delivery))
    c.delivery.ensures
