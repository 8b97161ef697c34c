use Rattle.std.proofs.lemmas.Grind.{common_steps}
use Rattle.std.proofs.Common.{arith, ◌∙◌, ap}
use Rattle.clap.specs.Simple.{app_of, with_rule}
use Rattle.command_line.specs.Inner.Adding.{rule_told, with_rules}
use Rattle.command_line.proofs.Adding.{last_rule, one_more}
use Rattle.command_line.proofs.commands.with_arguments.Goals as goal

pub loop-argument-preserved : goal.loop-argument-preserved
loop-argument-preserved c = record {
  app = one_more with_rules with_rule last_rule rule_told c.args.arguments.now
      c.loop-argument.argument-index _ (app_of c.args.command) (app_of c.loop-argument.command)
      (app_of c.in_ok-command.command) (omega arith) c.loop-argument.invariant.app
      (c.in_ok-command.ensures.app
      ∙ ap (with_rule (app_of c.loop-argument.command)) c.told_arg.ensures.rule);
  alone = c.in_ok-command.ensures.alone;
}

pub returns-clause-app : goal.returns-clause-app
returns-clause-app c = grind (arith, common_steps)
