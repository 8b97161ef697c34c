-- What reading a text answers, told of the view of its value.
use Rattle.std.specs.Prelude.{Result, Ok, Err, ⊤}
use Rattle.ring_words.specs.declared.spelling.SpellingFault.{SpellingFault}
use Rattle.ring_words.specs.declared.spelling.SpellingFault.TheVariants.{Bad, NoMemory}

-- The value is seen as one that the text spells, Bad says that the text spells none, and want of
-- memory says nothing.
abbrev pub ReadsAs : {X Y : Type 0} → (X → Y) → (Y → Type 0) → Result X SpellingFault → Type 0
ReadsAs view Spells (Ok x) = Spells (view x)
ReadsAs {Y = Y} view Spells (Err Bad) = (y : Y) → Spells y → ⊥
ReadsAs view Spells (Err NoMemory) = ⊤
