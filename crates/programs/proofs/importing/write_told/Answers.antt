use Rattle.std.proofs.Common.{◌++◌, ◌∙◌, ◌∷◌, [], List, ap, ℕ}
use Rattle.line_api.proofs.Constants.{no_memory_line}
use Rattle.programs.proofs.importing.write_told.Goals as goal

pub write_line-requires-in-Err : goal.write_line-requires-in-Err
write_line-requires-in-Err g c =
    c.as_bytes-in-Err.ensures.value ∙ ap (λ (t : List ℕ). t ++ 10 ∷ []) no_memory_line
