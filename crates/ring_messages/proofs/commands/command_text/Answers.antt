use Rattle.ring_messages.specs.Commands.{command_data}
use Rattle.ring_messages.proofs.Putting.{alone}
use Rattle.ring_messages.proofs.commands.command_text.Goals as goal

pub returns : goal.returns
returns c =
    let d = command_data c.args.command.now in
    c.text_of.ensures d
    (alone d _ _ c.in_ok-writer.ensures.tokens c.in_ok-write_command.ensures.adds.adds.0)
