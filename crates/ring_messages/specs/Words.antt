-- The words of commands.
use Rattle.std.specs.Prelude.{ℕ, List, codes}
use Rattle.ring_words.specs.declared.command.Kind.{Kind}
use Rattle.ring_words.specs.declared.command.Kind.TheVariants.{Create, Add, SetWeight, Remove}
use Rattle.ring_words.specs.declared.command.Kind.TheVariants.{SetHours, PretendPassed, RaisePower}
use Rattle.ring_words.specs.declared.command.Kind.TheVariants.{Import, Publish, Rebalance}
use Rattle.ring_words.specs.declared.command.Kind.TheVariants.{Keep, RebalanceAs}

-- The word of a command: it stands in its message under the key `do`, and in its reply under the
-- key `done`.
abbrev pub kind_word : Kind → List ℕ
kind_word Create = codes "create"
kind_word Add = codes "add"
kind_word SetWeight = codes "set_weight"
kind_word Remove = codes "remove"
kind_word Keep = codes "keep"
kind_word SetHours = codes "set_hours"
kind_word PretendPassed = codes "pretend_passed"
kind_word RaisePower = codes "raise_power"
kind_word Import = codes "import"
kind_word Publish = codes "publish"
kind_word Rebalance = codes "rebalance"
kind_word RebalanceAs = codes "rebalance_as"
