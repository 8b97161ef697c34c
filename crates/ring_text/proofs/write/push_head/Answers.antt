use Rattle.std.proofs.Common.{◌∙◌}
use Rattle.ring_text.proofs.Written.{head_written}
use Rattle.ring_text.proofs.write.push_head.Goals as goal

pub returns : goal.returns
returns c =
    let name = c.as_str.ensures.text ∙ c.name.ensures.value in
    let power = c.from.ensures ∙ c.get.ensures.value ∙ c.power.ensures in
    let replicas = c.from-2.ensures ∙ c.get-2.ensures.value ∙ c.replicas.ensures in
    head_written _ _ _ _ _ _ _ c.args.snapshot.now
    c.in_ok-push_word.ensures
    (rw name at c.in_ok-push_word-2.ensures)
    (rw c.version.ensures at c.in_ok-push_number.ensures)
    (rw power at c.in_ok-push_number-2.ensures)
    (rw replicas at c.in_ok-push_number-3.ensures)
    (rw c.device_count.ensures at c.in_ok-push_number-4.ensures)
