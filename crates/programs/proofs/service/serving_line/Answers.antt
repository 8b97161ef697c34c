use Rattle.std.proofs.Common.{◌++◌, ◌∷◌, [], append_assoc, codes, string_bytes}
use Rattle.programs.proofs.service.serving_line.Goals as goal

pub returns : goal.returns
returns c =
    let place = string_bytes c.in_ok-place.place in
    let held = string_bytes c.in_ok-held.held in
    rw (
      ← c.in_ok-place.ensures,
      ← c.in_ok-held.ensures,
      append_assoc (place ++ codes ", ") held (10 ∷ []),
      append_assoc place (codes ", ") (held ++ 10 ∷ []),
    ) c.format.ensures.ok
