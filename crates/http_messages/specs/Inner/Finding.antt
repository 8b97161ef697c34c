-- What looking through the fields of a head finds.
use Rattle.std.specs.Prelude.{◌≡◌, ℕ, ◌≤◌, List, [], ◌∷◌, length, ⊤}
use Rattle.http_messages.specs.Requests.{longest_body}
use Rattle.httparse.specs.Spans.{span_bytes, IsWithin}
use Rattle.http_messages.specs.declared.fields.FieldFound.{FieldFound}
use Rattle.http_messages.specs.declared.fields.FieldFound.TheVariants.{Missing, One, Several}
use Rattle.http_messages.specs.declared.request.Framing.{Framing}
use Rattle.http_messages.specs.declared.request.Framing.TheVariants.{Faulty, Body}

-- what was found in a buffer is these values
abbrev pub IsFieldFound : List ℕ → FieldFound → List (List ℕ) → Type 0
IsFieldFound buf Missing values = values ≡ []
IsFieldFound buf (One span) values =
    IsWithin (length buf) span × (values ≡ span_bytes buf span ∷ [])
IsFieldFound buf Several values = 2 ≤ length values

-- a body that is read has at most so many bytes
abbrev pub IsSmall : Framing → Type 0
IsSmall (Faulty why) = ⊤
IsSmall (Body count) = count ≤ longest_body
