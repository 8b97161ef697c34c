use Rattle.std.proofs.Common.{◌≡◌, map, take}
use Rattle.clap.specs.Simple.{app_of}
use Rattle.command_line.specs.Inner.Adding.{shape_told, with_shapes}
use Rattle.command_line.proofs.commands.with_programs.Given as goal

abbrev pub invariant-loop-program : goal.invariant-loop-program
invariant-loop-program l = app_of l.command
    ≡ with_shapes (app_of l.fn.command) (map shape_told (take l.program-index l.programs))
