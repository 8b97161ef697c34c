-- What a book is asked.
use Rattle.std.specs.Prelude.{⊤, ℕ, Bool, false, if◌then◌else◌, List, [], ◌∷◌, ◌++◌}
use Rattle.ring_reads.specs.Reads.{IsText, is_json}
use Rattle.ring_log.specs.declared.inquiry.Inquiry.{Inquiry}
use Rattle.ring_log.specs.declared.inquiry.Inquiry.TheVariants as inquiry

-- At most so many entries of a log are told at a time.
abbrev pub most_told : ℕ
most_told = 1000

-- What is shown of it is text: all but Swift's files.
abbrev pub AsksText : Inquiry → Type 0
AsksText (inquiry.Held question) = IsText question
AsksText (inquiry.Log from most) = ⊤

-- whether what is shown of it is one JSON text, which has no line feed at its end
abbrev pub asks_json : Inquiry → Bool
asks_json (inquiry.Held question) = is_json question
asks_json (inquiry.Log from most) = false

-- What is written of what is asked of which these bytes are shown: one JSON text as a line, an empty
-- line where nothing is shown, and all else as it is.
abbrev pub written_for : Inquiry → List ℕ → List ℕ
written_for asked [] = 10 ∷ []
written_for asked (b ∷ bytes) = if asks_json asked then b ∷ bytes ++ 10 ∷ [] else b ∷ bytes
