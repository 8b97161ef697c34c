-- What is found is told in one way only.
use Rattle.std.proofs.Common.{◌≡◌, List, None, Some}
use Rattle.std.specs.Prelude.{Option}
use Rattle.std.specs.Coded.{×_prop, Coded-set, Unit-prop, coded_list}
use mathlib.Core.HLevel.{⊥_prop, ¬_prop}
use Rattle.ring_words.specs.declared.command.Command.{Command}
use Rattle.ring_words.specs.declared.command.Reply.{Reply}
use Rattle.request_book.specs.declared.entry.Entry.{Entry}
use Rattle.request_book.specs.declared.keeper.Found.{Found}
use Rattle.request_book.specs.declared.keeper.Found.TheVariants.{New, Other, Same}
use Rattle.request_book.specs.Keeper.{IsFound}
use Rattle.builder_store.specs.Inner.Codes.{entry_code}
use Rattle.builder_store.specs.Inner.Sets.{command_set, reply_set}

pub found_prop : (entry : Option (Entry Command Reply)) (command : Command) (found : Found Reply)
    → IsProp (IsFound entry command found)
found_prop None command New = Unit-prop
found_prop None command (Same reply) = ⊥_prop
found_prop None command Other = ⊥_prop
found_prop (Some e) command New = ⊥_prop
found_prop (Some e) command (Same reply) = ×_prop (command_set _ _) (reply_set _ _)
found_prop (Some e) command Other = ¬_prop

pub entries_prop : (a b : List (Entry Command Reply)) → IsProp (a ≡ b)
entries_prop a b = Coded-set (coded_list entry_code) a b
