-- The fields of a request's head, each a name and a value.
use Rattle.std.specs.Prelude.{ℕ, ◌&&◌, Bool, List, codes, if◌then◌else◌, Some, None}
use Rattle.std.specs.List.{filter_map}
use Rattle.std.specs.Str.{str_eq_ignore_ascii_case}

-- the values of the fields of this name, in order; names are alike whatever the case of their ASCII
-- letters
abbrev pub values_named : List ℕ → List (List ℕ × List ℕ) → List (List ℕ)
values_named name fields =
    filter_map (λ f. if str_eq_ignore_ascii_case f.0 name then Some f.1 else None) fields

-- whether a field asks that the connection be closed: a Connection whose whole value is `close`, in
-- any case
abbrev pub is_close : List ℕ × List ℕ → Bool
is_close f =
    str_eq_ignore_ascii_case f.0 (codes "connection") &&
    str_eq_ignore_ascii_case f.1 (codes "close")
