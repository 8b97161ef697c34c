-- What queries say.
use Rattle.std.specs.Prelude.{◌≡◌, ◌+◌, ℕ, List, [], ◌∷◌, IsTrue, Some, None, codes, length, map}
use Rattle.ring_words.specs.Limits.{greatest_long}
use Rattle.std.specs.Prelude.{Option, if◌then◌else◌, unwrap_or}
use Rattle.std.specs.List.{filter_map}
use Rattle.std.specs.Option.{option_to_list}
use Rattle.std.specs.Str.{bytes_eq}
use Rattle.std.specs.Str.Lossy.{utf8_lossy}
use Rattle.form_urlencoded.specs.Form.{decode, raw_pairs}
use Rattle.ring_words.specs.Spelling.{SpellsNumber}
use Rattle.ring_words.specs.Texts.{is_label}
use Rattle.ring_words.specs.declared.request.Key.{Key}
use Rattle.path_lookup.specs.Names.{PathNames}
use Rattle.ring_log.specs.Inquiries.{most_told}

-- the pairs of a query, each a name and a value, decoded; bytes that are no UTF-8 stand as U+FFFD
abbrev pub pairs_of : List ℕ → List (List ℕ × List ℕ)
pairs_of query = map (λ pair. (utf8_lossy (decode pair.0), utf8_lossy (decode pair.1)))
    (raw_pairs query)

-- the values of the pairs of this name, in order
abbrev pub values_of_pairs : List ℕ → List (List ℕ × List ℕ) → List (List ℕ)
values_of_pairs name pairs = filter_map (λ pair. if bytes_eq pair.0 name then Some pair.1 else
    None) pairs

-- The query of an import: a caller and a number, once each, and nothing else.
pub record IsImportQuery (pairs : List (List ℕ × List ℕ)) (key : Key) : Type 0 where
  pub number : List ℕ
  pub caller_once : values_of_pairs (codes "caller") pairs ≡ key.caller ∷ []
  pub caller_named : IsTrue (is_label key.caller)
  pub number_once : values_of_pairs (codes "number") pairs ≡ number ∷ []
  pub number_spelled : SpellsNumber number 0 greatest_long key.number
  pub nothing_else : length pairs ≡ 2

-- The query of a path: an account, a container and an object at most once each, and nothing else.
pub record IsPathQuery (pairs : List (List ℕ × List ℕ)) (names : PathNames) : Type 0 where
  pub account : values_of_pairs (codes "account") pairs ≡ names.account ∷ []
  pub container : values_of_pairs (codes "container") pairs ≡ option_to_list names.container
  pub object : values_of_pairs (codes "object") pairs ≡ option_to_list names.object
  pub nothing_else : length pairs
      ≡ 1 + length (option_to_list names.container) + length (option_to_list names.object)

-- The query of a preview: a seed once, an hour at most once, and nothing else. Without an hour it
-- is that of 0.
pub record IsPreviewQuery (pairs : List (List ℕ × List ℕ)) (seed hour : ℕ) : Type 0 where
  pub seed_text : List ℕ
  pub hour_text : Option (List ℕ)
  pub seed_once : values_of_pairs (codes "seed") pairs ≡ seed_text ∷ []
  pub seed_spelled : SpellsNumber seed_text 0 greatest_long seed
  pub hour_once : values_of_pairs (codes "hour") pairs ≡ option_to_list hour_text
  pub hour_spelled : SpellsNumber (unwrap_or hour_text (codes "0")) 0 greatest_long hour
  pub nothing_else : length pairs ≡ 1 + length (option_to_list hour_text)

-- The query of what moved: the versions from which and to which, once each, and nothing else.
pub record IsMovesQuery (pairs : List (List ℕ × List ℕ)) (from to : ℕ) : Type 0 where
  pub from_text : List ℕ
  pub to_text : List ℕ
  pub from_once : values_of_pairs (codes "from") pairs ≡ from_text ∷ []
  pub from_spelled : SpellsNumber from_text 0 greatest_long from
  pub to_once : values_of_pairs (codes "to") pairs ≡ to_text ∷ []
  pub to_spelled : SpellsNumber to_text 0 greatest_long to
  pub nothing_else : length pairs ≡ 2

-- The query of a part of the log: a place and how many entries, at most once each, and nothing else.
-- Without a place it begins at 0, and without a number it asks for 100.
pub record IsLogQuery (pairs : List (List ℕ × List ℕ)) (from most : ℕ) : Type 0 where
  pub from_text : Option (List ℕ)
  pub most_text : Option (List ℕ)
  pub from_once : values_of_pairs (codes "from") pairs ≡ option_to_list from_text
  pub from_spelled : SpellsNumber (unwrap_or from_text (codes "0")) 0 greatest_long from
  pub most_once : values_of_pairs (codes "most") pairs ≡ option_to_list most_text
  pub most_spelled : SpellsNumber (unwrap_or most_text (codes "100")) 1 most_told most
  pub nothing_else : length pairs
      ≡ length (option_to_list from_text) + length (option_to_list most_text)
