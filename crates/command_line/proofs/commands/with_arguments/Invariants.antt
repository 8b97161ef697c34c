use Rattle.std.proofs.Common.{◌≡◌, map, take, false}
use Rattle.clap.specs.Simple.{app_of}
use Rattle.clap.specs.declared.builder.command.Command.TheViews.{out-Command}
use Rattle.command_line.specs.Inner.Adding.{rule_told, with_rules}
use Rattle.command_line.proofs.commands.with_arguments.Given as goal

abbrev pub invariant-loop-argument : goal.invariant-loop-argument
invariant-loop-argument l = record {
  app : app_of l.command
      ≡ with_rules (app_of l.fn.command) (map rule_told (take l.argument-index l.arguments));
  alone : (out-Command l.command).has_globals ≡ false;
}
