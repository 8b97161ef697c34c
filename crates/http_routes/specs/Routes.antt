-- Which paths are routes.
use Rattle.std.specs.Prelude.{◌≡◌, ◌≢◌, ◌<◌, ⊤, ℕ, List, [], ◌∷◌, ◌++◌, All, IsUtf8, codes, length}
use Rattle.http_messages.specs.declared.request.Method.{Method}
use Rattle.http_messages.specs.declared.request.Method.TheVariants.{Get, Post}
use Rattle.http_routes.specs.declared.routes.Endpoint.{Endpoint}
use Rattle.ring_reads.specs.Reads.{plain_word}
use Rattle.ring_reads.specs.declared.plain.Plain.{Plain}
use Rattle.ring_reads.specs.declared.plain.Plain.TheVariants as plain
use Rattle.http_routes.specs.declared.routes.Endpoint.TheVariants.{Requests, Import, Word, Nodes}
use Rattle.http_routes.specs.declared.routes.Endpoint.TheVariants.{Log, Metrics, Moves, Preview}
use Rattle.http_routes.specs.declared.routes.Endpoint.TheVariants.{Page, Rings, Status, Swift, Text}

-- the method that an endpoint has
abbrev pub endpoint_method : Endpoint → Method
endpoint_method Requests = Post
endpoint_method Import = Post
endpoint_method Rings = Get
endpoint_method Status = Get
endpoint_method Metrics = Get
endpoint_method (Word asked) = Get
endpoint_method Nodes = Get
endpoint_method Text = Get
endpoint_method Swift = Get
endpoint_method Preview = Get
endpoint_method Moves = Get
endpoint_method Log = Get
endpoint_method Page = Get

-- The endpoint is of a ring, which its route names.
abbrev pub IsOfRing : Endpoint → Type 0
IsOfRing Requests = ⊥
IsOfRing Rings = ⊥
IsOfRing Status = ⊥
IsOfRing Log = ⊥
IsOfRing Metrics = ⊥
IsOfRing Page = ⊥
IsOfRing Import = ⊤
IsOfRing (Word asked) = ⊤
IsOfRing Nodes = ⊤
IsOfRing Text = ⊤
IsOfRing Swift = ⊤
IsOfRing Preview = ⊤
IsOfRing Moves = ⊤

-- A segment of a path: text of some bytes, none of them a slash.
abbrev pub IsPathSegment : List ℕ → Type 0
IsPathSegment segment = (0 < length segment) × All (λ byte. byte ≢ 47) segment × IsUtf8 segment

-- The path of a ring with this name, in front of what is asked of the ring.
abbrev pub ring_path : List ℕ → List ℕ
ring_path ring = codes "/v1/rings/" ++ ring

-- what stands behind the ring's name where a word alone asks: nothing for the whole ring, else a
-- slash and the word
abbrev pub plain_tail : Plain → List ℕ
plain_tail plain.Ring = []
plain_tail other = 47 ∷ plain_word other

-- The path is the route to this endpoint, with these segments as they stand in it. A segment that
-- the route doesn't have is empty.
abbrev pub HasRoute : List ℕ → Endpoint → List ℕ → List ℕ → Type 0
HasRoute path Requests ring version = (path ≡ codes "/v1/requests") × (ring ≡ []) × (version ≡ [])
HasRoute path Import ring version = (path ≡ codes "/v1/import/" ++ ring) × IsPathSegment ring ×
    (version ≡ [])
HasRoute path Rings ring version = (path ≡ codes "/v1/rings") × (ring ≡ []) × (version ≡ [])
HasRoute path Status ring version = (path ≡ codes "/v1/status") × (ring ≡ []) × (version ≡ [])
HasRoute path Log ring version = (path ≡ codes "/v1/log") × (ring ≡ []) × (version ≡ [])
HasRoute path Metrics ring version = (path ≡ codes "/v1/metrics") × (ring ≡ []) × (version ≡ [])
HasRoute path Page ring version = (path ≡ codes "/v1/page") × (ring ≡ []) × (version ≡ [])
HasRoute path (Word asked) ring version = (path ≡ ring_path ring ++ plain_tail asked) ×
    IsPathSegment ring × (version ≡ [])
HasRoute path Nodes ring version = (path ≡ ring_path ring ++ codes "/nodes") × IsPathSegment ring ×
    (version ≡ [])
HasRoute path Text ring version =
    (path ≡ ring_path ring ++ codes "/text/" ++ version) × IsPathSegment ring ×
    IsPathSegment version
HasRoute path Swift ring version =
    (path ≡ ring_path ring ++ codes "/swift/" ++ version) × IsPathSegment ring ×
    IsPathSegment version
HasRoute path Preview ring version = (path ≡ ring_path ring ++ codes "/preview") ×
    IsPathSegment ring × (version ≡ [])
HasRoute path Moves ring version = (path ≡ ring_path ring ++ codes "/moves") × IsPathSegment ring ×
    (version ≡ [])
