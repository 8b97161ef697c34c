-- What a command gets when programs and arguments are added to it.
use Rattle.std.specs.Prelude.{List, ◌++◌, [], ◌∷◌, map, false}
use Rattle.clap.specs.Simple.{App, Shape, on_top}
use Rattle.clap.specs.Walk.{Rule}
use Rattle.command_line.specs.Shapes.{flag, named, needed, optional, possible, program, repeated}
use Rattle.command_line.specs.Shapes.{several}
use Rattle.command_line.specs.declared.commands.Argument.{Argument}
use Rattle.command_line.specs.declared.commands.Argument.TheVariants.{Flag, Named, Needed, Optional}
use Rattle.command_line.specs.declared.commands.Argument.TheVariants.{Possible, Repeated, Several}
use Rattle.command_line.specs.declared.commands.Program.{Program}

-- The command has these arguments, behind those that it had.
abbrev pub with_rules : App → List Rule → App
with_rules app rules = on_top (λ shape. record shape { rules = shape.rules ++ rules }) app

-- what a parse reads of an argument that is told so
abbrev pub rule_told : Argument → Rule
rule_told (Needed name) = needed name.now
rule_told (Several name) = several name.now
rule_told (Possible name) = possible name.now
rule_told (Optional name) = optional name.now
rule_told (Named name) = named name.now
rule_told (Repeated name) = repeated name.now
rule_told (Flag name) = flag name.now

-- what a parse reads of a program that is told so
abbrev pub shape_told : Program → Shape
shape_told told = program told.name.now (map rule_told told.arguments.now)

-- The command has programs of these shapes, behind those that it had.
abbrev pub with_shapes : App → List Shape → App
with_shapes app [] = app
with_shapes app (shape ∷ shapes) = record {
  top = record app.top { is_leaf = false };
  subs = app.subs ++ shape ∷ shapes;
}
