-- The answer to a line.
use Rattle.std.specs.Prelude.{◌≡◌, ℕ, ◌<◌, ◌≤◌, ◌⊎◌, List, length}
use Rattle.line_stream.specs.Lines.{longest_line}
use Rattle.line_stream.specs.declared.handler.Handler.{Ghosts}

-- A line may be given this text: the handler's answer, or what stands for a lost answer. A line of
-- more than `longest_line` bytes gets its own text, and leaves the state as it was.
abbrev pub Answered : {H S : Type 0} → Ghosts H S → S → List ℕ → List ℕ → S → Type 0
Answered handler old line text new =
    ((length line ≤ longest_line) × (handler.answers old line text new ⊎
    (handler.loses old line new × (text ≡ handler.no_memory))))
    ⊎ ((longest_line < length line) × (text ≡ handler.too_long) × (new ≡ old))
