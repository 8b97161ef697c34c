use Rattle.std.proofs.Common.{◌∷◌, ◌++◌, ◌∙◌, [], append_assoc, codes, decimal, rules}
use Rattle.json.specs.Token.{begin_object, end_object, key, number}
use Rattle.ring_messages.specs.Message.{message_data}
use Rattle.ring_messages.specs.Objects.{data_tokens}
use Rattle.ring_messages.specs.Replies.{reply_data}
use Rattle.ring_messages.proofs.Putting.{behind, ends}
use Rattle.ring_log.specs.Log.{entry_data}
use Rattle.ring_log.proofs.text.write_entry.Goals as goal

pub returns : goal.returns
returns c =
    let e = c.args.entry.now in
    let figures = begin_object ∷ key (codes "hour") ∷ number (decimal c.into.result)
    ∷ key (codes "place") ∷ number (decimal c.args.place) ∷ [] in
    let reply = figures ++ key (codes "reply") ∷ [] in
    let replied = reply ++ data_tokens (reply_data e.reply) in
    let request = replied ++ key (codes "request") ∷ [] in
    let asked = request ++ data_tokens (message_data e.key e.command) in
    let status = key (codes "status") ∷ number (decimal c.into-2.result) ∷ [] in
    let old = c.args.writer.now.tokens in
    record {
      adds = ends c.end_object.result c.args.writer.now c.write_members-2.new.writer
          c.end_object.new.self end_object (asked ++ status)
          (data_tokens (entry_data c.args.place e))
          (behind old asked status
          (behind old request (data_tokens (message_data e.key e.command))
          (behind old replied (key (codes "request") ∷ [])
          (behind old reply (data_tokens (reply_data e.reply))
          (behind old figures (key (codes "reply") ∷ [])
          (behind old (begin_object ∷ []) _ c.in_ok-begin_object.ensures.ok
          c.in_ok-write_members.ensures.0)
          c.in_ok-key.ensures.ok)
          c.in_ok-write_reply.ensures.adds.0)
          c.in_ok-key-2.ensures.ok)
          c.in_ok-write_message.ensures.adds.0)
          c.in_ok-write_members-2.ensures.0)
          (c.write_members-2.ensures.1 ∙ c.write_message.ensures.adds.1 ∙ c.key-2.ensures.room.0
          ∙ c.write_reply.ensures.adds.1 ∙ c.key.ensures.room.0 ∙ c.write_members.ensures.1
          ∙ c.begin_object.ensures.room.0)
          c.end_object.ensures (search (rules, append_assoc));
    }
