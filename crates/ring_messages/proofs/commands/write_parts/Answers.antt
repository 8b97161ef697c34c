use Rattle.std.proofs.Common.{[], append-nil, refl, sym}
use Rattle.serde_json.specs.Data.{no_members}
use Rattle.ring_messages.proofs.Putting.{parts_end}
use Rattle.ring_messages.proofs.commands.write_parts.Goals as goal

pub returns : goal.returns
returns c =
    let begun = c.begin.new.writer in
    parts_end c.end_object.result c.begin.result c.in_ok-begin.field-0 c.args.writer.now begun begun
    c.end_object.new.self c.args.key c.args.first.now c.args.middle.now c.args.last.now no_members []
    c.in_ok-begin.was c.begin.ensures (sym (append-nil begun.tokens)) refl c.end_object.ensures refl
