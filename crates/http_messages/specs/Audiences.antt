-- Whose requests are answered.
use Rattle.std.specs.Prelude.{ℕ, ◌&&◌, ◌||◌, not, Bool, true, false, List, [], ◌∷◌, ◌==◌, codes, map}
use Rattle.std.specs.Prelude.{length, take, drop}
use Rattle.std.specs.List.{list_all, list_any}
use Rattle.std.specs.Char.{is_ascii_digit}
use Rattle.std.specs.Str.{bytes_eq, str_eq_ignore_ascii_case}
use Rattle.http_messages.specs.declared.request.Method.{Method}
use Rattle.http_messages.specs.declared.request.Method.TheVariants.{Get, Post}
use Rattle.http_messages.specs.declared.audience.Audience.{Audience}
use Rattle.http_messages.specs.declared.audience.Audience.TheVariants.{Anyone, Programs}
use Rattle.http_messages.specs.Fields.{values_named}

-- whether a text is nothing, or a colon and the digits of a port
abbrev pub is_port : List ℕ → Bool
is_port [] = true
is_port (first ∷ digits) = first == 58 && list_all is_ascii_digit digits

-- whether a Host is of this name, with a port or without one; the case of ASCII letters makes no
-- difference (RFC 9110, 4.2.3)
abbrev pub is_host_of : List ℕ → List ℕ → Bool
is_host_of host name = str_eq_ignore_ascii_case (take (length name) host) name &&
    is_port (drop (length name) host)

-- whether a Host is one of the names that a machine has for itself, or one of these
abbrev pub is_host_among : List (List ℕ) → List ℕ → Bool
is_host_among names host =
    is_host_of host (codes "127.0.0.1") || is_host_of host (codes "localhost") ||
    list_any (is_host_of host) names

-- whether there is one Host, and it is such a name
abbrev pub is_sent_to : List (List ℕ) → List (List ℕ) → Bool
is_sent_to names (host ∷ []) = is_host_among names host
is_sent_to names hosts = false

-- whether a browser says that what sent this request is a page of elsewhere, by the values of
-- Sec-Fetch-Site (Fetch Metadata, 2.3)
abbrev pub is_of_elsewhere : List (List ℕ) → Bool
is_of_elsewhere [] = false
is_of_elsewhere (site ∷ []) =
    not (bytes_eq site (codes "none") || bytes_eq site (codes "same-origin"))
is_of_elsewhere (site ∷ other ∷ sites) = true

-- Whether a browser sent a request on behalf of a page that may not send it: any page, where the
-- request may change something, and one of elsewhere, where it reads.
abbrev pub is_of_a_page : Method → List (List ℕ × List ℕ) → Bool
is_of_a_page Get fields = is_of_elsewhere (values_named (codes "sec-fetch-site") fields)
is_of_a_page Post fields = not (length (values_named (codes "origin") fields) == 0) ||
    not (length (values_named (codes "sec-fetch-site") fields) == 0)

-- Whether the audience may send a request with this method and these fields. An audience of
-- programs sends to the machine's own names or to these, and is no page in a browser.
abbrev pub is_allowed : Audience → Method → List (List ℕ × List ℕ) → Bool
is_allowed Anyone method fields = true
is_allowed (Programs names) method fields =
    is_sent_to (map (λ name. name.now) names.now) (values_named (codes "host") fields) &&
    not (is_of_a_page method fields)
