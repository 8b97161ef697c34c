-- The numbers and names that stand under a key.
use Rattle.std.specs.Prelude.{◌≡◌, ℕ, ◌≤◌, List, Bool, Option, Some, IsTrue}
use Rattle.serde_json.specs.Data.{Data, number, unsigned, string}

-- This whole number stands there, and is within these bounds.
pub record IsNumber (found : Option Data) (least most n : ℕ) : Type 0 where
  pub is : found ≡ Some (number (unsigned n))
  pub above : least ≤ n
  pub below : n ≤ most

-- This text stands there, and is a name by this rule.
pub record IsName (allows : List ℕ → Bool) (found : Option Data) (name : List ℕ) : Type 0 where
  pub is : found ≡ Some (string name)
  pub valid : IsTrue (allows name)
