-- The names that make a path.
use Rattle.std.specs.Prelude.{ℕ, ◌==◌, ◌&&◌, Bool, not, nat_lt, nat_le, List, [], ◌∷◌, ◌++◌, length}
use Rattle.std.specs.Prelude.{Option, Some, None, true, false}
use Rattle.std.specs.List.{list_all}

-- The names of a path: an account, and perhaps a container and an object in it.
pub record PathNames : Type 0 where
  pub account : List ℕ
  pub container : Option (List ℕ)
  pub object : Option (List ℕ)

-- any byte but /
abbrev pub is_segment_byte : ℕ → Bool
is_segment_byte b = not (b == 47)

-- the name of an account or a container: 1 to 256 bytes without /
abbrev pub is_segment : List ℕ → Bool
is_segment t = nat_lt 0 (length t) && nat_le (length t) 256 && list_all is_segment_byte t

-- the name of an object: 1 to 1024 bytes of any kind
abbrev pub is_object : List ℕ → Bool
is_object t = nat_lt 0 (length t) && nat_le (length t) 1024

-- no name, the name of a container, or that of a container and that of an object in it
abbrev pub is_inside : Option (List ℕ) → Option (List ℕ) → Bool
is_inside None None = true
is_inside None (Some object) = false
is_inside (Some container) None = is_segment container
is_inside (Some container) (Some object) = is_segment container && is_object object

-- whether the names make a path
abbrev pub is_path : PathNames → Bool
is_path names = is_segment names.account && is_inside names.container names.object

-- nothing, or a / and a name
abbrev pub behind_slash : Option (List ℕ) → List ℕ
behind_slash None = []
behind_slash (Some name) = 47 ∷ name

-- the path as a text: each of its names behind a /
abbrev pub path_text : PathNames → List ℕ
path_text names = 47 ∷ names.account ++ behind_slash names.container ++ behind_slash names.object

-- the names that make a path
abbrev pub names_of : List ℕ → Option (List ℕ) → Option (List ℕ) → PathNames
names_of account container object = record {
  account = account;
  container = container;
  object =
      object;
}
