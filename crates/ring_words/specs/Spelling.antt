-- What a text spells, and what a reader of a text answers.
use Rattle.std.specs.Prelude.{◌≡◌, ℕ, ◌<◌, ◌≤◌, List, Bool, Result, Ok, Err, ⊤, IsTrue, decimal}
use Rattle.ring_words.specs.Texts.{address_text, address_limit, hundredths_text, greatest_weight}
use Rattle.ring_words.specs.declared.spelling.SpellingFault.{SpellingFault}
use Rattle.ring_words.specs.declared.spelling.SpellingFault.TheVariants.{Bad, NoMemory}

-- What was read is what the text spells; where the text is bad, it spells nothing of the kind. Want
-- of memory says nothing.
abbrev pub Reads : {X : Type 0} → (X → Type 0) → Result X SpellingFault → Type 0
Reads Spells (Ok x) = Spells x
Reads {X = X} Spells (Err Bad) = (x : X) → Spells x → ⊥
Reads Spells (Err NoMemory) = ⊤

-- The word spells this number, which is within these bounds.
pub record SpellsNumber (word : List ℕ) (least most n : ℕ) : Type 0 where
  pub is : word ≡ decimal n
  pub above : least ≤ n
  pub below : n ≤ most

-- The word is this name, which is one by this rule.
pub record SpellsName (allows : List ℕ → Bool) (word name : List ℕ) : Type 0 where
  pub is : word ≡ name
  pub valid : IsTrue (allows name)

-- The word spells this address.
pub record SpellsAddress (word : List ℕ) (address : ℕ) : Type 0 where
  pub is : word ≡ address_text address
  pub valid : address < address_limit

-- The word spells this weight.
pub record SpellsWeight (word : List ℕ) (hundredths : ℕ) : Type 0 where
  pub is : word ≡ hundredths_text hundredths
  pub valid : hundredths ≤ greatest_weight
