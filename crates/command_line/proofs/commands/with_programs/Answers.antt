use Rattle.std.proofs.Common.{arith}
use Rattle.clap.specs.Simple.{app_of, with_subcommand}
use Rattle.command_line.specs.Inner.Adding.{shape_told, with_shapes}
use Rattle.command_line.proofs.Adding.{last_shape, one_more}
use Rattle.command_line.proofs.commands.with_programs.Goals as goal

pub loop-program-preserved : goal.loop-program-preserved
loop-program-preserved c =
    one_more with_shapes with_subcommand last_shape shape_told c.args.programs.now
    c.loop-program.program-index _ (app_of c.args.command) (app_of c.loop-program.command)
    (app_of c.in_ok-command.command) (omega arith) c.loop-program.invariant
    c.in_ok-command.ensures
