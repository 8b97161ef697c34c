-- The pairs of a query as they are read.
use Rattle.path_lookup.specs.Names.{PathNames, is_path}
use Rattle.path_lookup.specs.declared.fault.PathFault.{PathFault}
use Rattle.path_lookup.specs.declared.fault.PathFault.TheVariants.{BadPath, NoMemory}
use Rattle.http_routes.specs.Queries.{IsPathQuery, values_of_pairs}
use Rattle.std.specs.Prelude.{◌≡◌, ◌≢◌, ◌≤◌, ⊤, true, Result, Ok, Err, ℕ, List, [], ◌∷◌, length}
use Rattle.std.specs.Prelude.{Option, unwrap_or}
use Rattle.std.specs.Option.{option_to_list}
use Rattle.std.specs.String.{string_bytes}
use Rattle.std.specs.Str.Lossy.{utf8_lossy}
use Rattle.form_urlencoded.specs.Form.{decode}
use Rattle.http_routes.specs.declared.query.Pair.{Pair}
use Rattle.http_routes.specs.declared.query.ValueFound.{ValueFound}
use Rattle.http_routes.specs.declared.query.ValueFound.TheVariants.{Missing, One, Several}

-- a pair's name and value
abbrev pub pair_text : Pair → List ℕ × List ℕ
pair_text pair = (string_bytes pair.name, string_bytes pair.value)

-- a pair as it stands in a query, decoded
abbrev pub decoded : List ℕ × List ℕ → List ℕ × List ℕ
decoded pair = (utf8_lossy (decode pair.0), utf8_lossy (decode pair.1))

-- what was found is these values
abbrev pub IsValueFound : ValueFound → List (List ℕ) → Type 0
IsValueFound Missing values = values ≡ []
IsValueFound (One value) values = values ≡ value.now ∷ []
IsValueFound Several values = 2 ≤ length values

-- The value of the pair of a name is this, or another where there is no such pair, and there are so
-- many such pairs.
abbrev pub IsValueOr : List ℕ → List ℕ → List (List ℕ × List ℕ) → List ℕ → ℕ → Type 0
IsValueOr name other pairs value count = (text : Option (List ℕ))
    × (values_of_pairs name pairs ≡ option_to_list text) × (value ≡ unwrap_or text other)
    × (count ≡ length (option_to_list text))

-- What is read of a query is the path that it names. A bad path is none that it names.
abbrev pub ReadsPath : List (List ℕ × List ℕ) → Result PathNames PathFault → Type 0
ReadsPath pairs (Ok names) = IsPathQuery pairs names × (is_path names ≡ true)
ReadsPath pairs (Err BadPath) = (names : PathNames) → IsPathQuery pairs names → is_path names ≢ true
ReadsPath pairs (Err NoMemory) = ⊤
