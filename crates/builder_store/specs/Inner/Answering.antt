-- When a connection doesn't answer.
use Rattle.std.specs.Prelude.{[]}
use Rattle.sqlite.specs.State.{IsNotRun, State}
use Rattle.sqlite.specs.declared.error.Error.{Error}

-- An empty text, which asks for nothing, isn't run on it.
abbrev pub IsUnanswered : State → State → Type 0
IsUnanswered old new = (error : Error) × IsNotRun old new [] [] error
