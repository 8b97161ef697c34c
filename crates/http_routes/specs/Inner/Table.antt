-- The routes as a router holds them.
use Rattle.std.specs.Prelude.{◌≡◌, ◌≢◌, ◌++◌, ℕ, List, [], ◌∷◌, None, Result, Ok, Err, codes, ⊤}
use Rattle.matchit.specs.Order.{placed}
use Rattle.matchit.specs.Route.{Scan}
use Rattle.matchit.specs.Router.{RouteOf, nearest, route_from}
use Rattle.matchit.specs.declared.error.InsertError.{InsertError}
use Rattle.matchit.specs.Rows.{RowsOf}
use Rattle.http_routes.specs.declared.routes.Endpoint.{Endpoint}
use Rattle.http_routes.specs.Routes.{IsPathSegment, ring_path}
use Rattle.http_routes.specs.declared.routes.Endpoint.TheVariants as endpoint
use Rattle.http_routes.specs.declared.table.TableRow.{TableRow}
use Rattle.http_routes.specs.declared.table.TableRow.TheVariants.{Requests, Import, Nodes, Text}
use Rattle.http_routes.specs.declared.table.TableRow.TheVariants.{Log, Metrics, Ring, Rings, Status}
use Rattle.http_routes.specs.declared.table.TableRow.TheVariants.{Page, Swift, Word}
use Rattle.ring_reads.specs.Reads.{plain_word}
use Rattle.ring_reads.specs.declared.plain.Plain.TheVariants as plain

-- the token of a parameter
abbrev pub segment_token : ℕ
segment_token = 256

-- a route: its tokens, its text, and where the names of its segments are in this text
abbrev pub route_row : List ℕ → List ℕ → List (ℕ × ℕ) → TableRow → List ℕ × RouteOf TableRow
route_row pattern text names row = (
  pattern,
  record { pattern = pattern; text = text; names = names; value = row },
)

-- a route of a ring whose name behind the ring's is this text
abbrev pub ring_row : List ℕ → TableRow → List ℕ × RouteOf TableRow
ring_row name row = route_row (codes "/v1/rings/" ++ segment_token ∷ name)
    (codes "/v1/rings/{ring}" ++ name) ((11, 15) ∷ []) row

abbrev pub import_row : List ℕ × RouteOf TableRow
import_row = route_row (codes "/v1/import/" ++ segment_token ∷ []) (codes "/v1/import/{ring}")
    ((12, 16) ∷ []) Import

abbrev pub text_row : List ℕ × RouteOf TableRow
text_row = route_row (codes "/v1/rings/" ++ segment_token ∷ codes "/text/" ++ segment_token ∷ [])
    (codes "/v1/rings/{ring}/text/{version}") ((11, 15) ∷ (23, 30) ∷ []) Text

abbrev pub swift_row : List ℕ × RouteOf TableRow
swift_row = route_row (codes "/v1/rings/" ++ segment_token ∷ codes "/swift/" ++ segment_token ∷ [])
    (codes "/v1/rings/{ring}/swift/{version}") ((11, 15) ∷ (24, 31) ∷ []) Swift

abbrev pub word_row : List ℕ × RouteOf TableRow
word_row = route_row (codes "/v1/rings/" ++ segment_token ∷ 47 ∷ segment_token ∷ [])
    (codes "/v1/rings/{ring}/{word}") ((11, 15) ∷ (18, 22) ∷ []) Word

-- the route of a whole ring
abbrev pub whole_row : List ℕ × RouteOf TableRow
whole_row = ring_row [] Ring

abbrev pub requests_row : List ℕ × RouteOf TableRow
requests_row = route_row (codes "/v1/requests") (codes "/v1/requests") [] Requests

abbrev pub rings_row : List ℕ × RouteOf TableRow
rings_row = route_row (codes "/v1/rings") (codes "/v1/rings") [] Rings

abbrev pub status_row : List ℕ × RouteOf TableRow
status_row = route_row (codes "/v1/status") (codes "/v1/status") [] Status

abbrev pub log_row : List ℕ × RouteOf TableRow
log_row = route_row (codes "/v1/log") (codes "/v1/log") [] Log

abbrev pub metrics_row : List ℕ × RouteOf TableRow
metrics_row = route_row (codes "/v1/metrics") (codes "/v1/metrics") [] Metrics

abbrev pub page_row : List ℕ × RouteOf TableRow
page_row = route_row (codes "/v1/page") (codes "/v1/page") [] Page

-- the routes, in the order of a router
abbrev pub all_routes : RowsOf (RouteOf TableRow)
all_routes = import_row ∷ log_row ∷ metrics_row ∷ page_row ∷ requests_row ∷
    ring_row (codes "/nodes") Nodes ∷ swift_row ∷ text_row ∷ word_row ∷ whole_row ∷ rings_row ∷ status_row ∷ []

-- The path has this row, with these segments as they stand in it.
abbrev pub HasRow : List ℕ → TableRow → List ℕ → List ℕ → List ℕ → Type 0
HasRow path Requests ring version word = (path ≡ codes "/v1/requests") × (ring ≡ []) ×
    (version ≡ [])
HasRow path Import ring version word = (path ≡ codes "/v1/import/" ++ ring) × IsPathSegment ring ×
    (version ≡ [])
HasRow path Nodes ring version word = (path ≡ ring_path ring ++ codes "/nodes") ×
    IsPathSegment ring × (version ≡ [])
HasRow path Text ring version word = (path ≡ ring_path ring ++ codes "/text/" ++ version) ×
    IsPathSegment ring × IsPathSegment version
HasRow path Swift ring version word = (path ≡ ring_path ring ++ codes "/swift/" ++ version) ×
    IsPathSegment ring × IsPathSegment version
HasRow path Ring ring version word = (path ≡ ring_path ring) × IsPathSegment ring × (version ≡ [])
HasRow path Word ring version word = (path ≡ ring_path ring ++ 47 ∷ word) × IsPathSegment ring ×
    (version ≡ [])
HasRow path Rings ring version word = (path ≡ codes "/v1/rings") × (ring ≡ []) × (version ≡ [])
HasRow path Status ring version word = (path ≡ codes "/v1/status") × (ring ≡ []) × (version ≡ [])
HasRow path Log ring version word = (path ≡ codes "/v1/log") × (ring ≡ []) × (version ≡ [])
HasRow path Metrics ring version word = (path ≡ codes "/v1/metrics") × (ring ≡ []) ×
    (version ≡ [])
HasRow path Page ring version word = (path ≡ codes "/v1/page") × (ring ≡ []) × (version ≡ [])

-- The row leads to this endpoint where its segment for a word is this one.
abbrev pub RowLeadsTo : TableRow → List ℕ → Endpoint → Type 0
RowLeadsTo Requests word endpoint.Requests = ⊤
RowLeadsTo Import word endpoint.Import = ⊤
RowLeadsTo Nodes word endpoint.Nodes = ⊤
RowLeadsTo Text word endpoint.Text = ⊤
RowLeadsTo Swift word endpoint.Swift = ⊤
RowLeadsTo Ring word (endpoint.Word asked) = asked ≡ plain.Ring
RowLeadsTo Word word (endpoint.Word asked) = (asked ≢ plain.Ring) × (word ≡ plain_word asked)
RowLeadsTo Word word endpoint.Preview = word ≡ codes "preview"
RowLeadsTo Word word endpoint.Moves = word ≡ codes "moves"
RowLeadsTo Rings word endpoint.Rings = ⊤
RowLeadsTo Status word endpoint.Status = ⊤
RowLeadsTo Log word endpoint.Log = ⊤
RowLeadsTo Metrics word endpoint.Metrics = ⊤
RowLeadsTo Page word endpoint.Page = ⊤
RowLeadsTo _ word _ = ⊥

-- A text that reads as a route and conflicts with none of the rows.
abbrev pub IsNewRoute : Result Scan InsertError → RowsOf (RouteOf TableRow) → Type 0
IsNewRoute (Ok route) rows = nearest route.pattern rows ≡ None
IsNewRoute (Err fault) rows = ⊥

-- The rows with the route that a text reads as.
abbrev pub IsAdded : Result Scan InsertError → TableRow → RowsOf (RouteOf TableRow) →
    RowsOf (RouteOf TableRow) → Type 0
IsAdded (Ok route) row old new = new ≡ placed (route.pattern, route_from route row) old
IsAdded (Err fault) row old new = ⊥
