-- Parts of a content differ or are the same in one way only.
use Rattle.std.specs.Coded.{Coded-set}
use Rattle.ring_words.specs.declared.command.Command.{Command}
use Rattle.ring_words.specs.declared.command.Reply.{Reply}
use Rattle.ring_words.specs.contracts.command.Command as command
use Rattle.ring_words.specs.contracts.command.Reply as reply
use Rattle.ring_model.specs.contracts.rings.Rings as rings
use Rattle.builder.specs.Step.{State}

pub state_set : IsSet State
state_set = Coded-set rings.the_row.coded

pub command_set : IsSet Command
command_set = Coded-set command.the_row.coded

pub reply_set : IsSet Reply
reply_set = Coded-set reply.the_row.coded
