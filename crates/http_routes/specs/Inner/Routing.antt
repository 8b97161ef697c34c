-- What a route asks for whose path and method are right.
use Rattle.std.specs.Prelude.{◌≡◌, ◌≢◌, ℕ, List, ⊤, IsTrue, true}
use Rattle.ring_words.specs.Limits.{greatest_long}
use Rattle.path_lookup.specs.Names.{PathNames, is_path}
use Rattle.ring_words.specs.Spelling.{SpellsNumber}
use Rattle.ring_words.specs.Texts.{is_label}
use Rattle.http_routes.specs.declared.routes.Endpoint.{Endpoint}
use Rattle.http_routes.specs.declared.routes.Endpoint.TheVariants as endpoint
use Rattle.ring_log.specs.declared.inquiry.Inquiry.TheVariants as inquiry
use Rattle.ring_reads.specs.declared.reads.Format.TheVariants as format
use Rattle.ring_reads.specs.declared.reads.Question.TheVariants as question
use Rattle.ring_reads.specs.declared.reads.Read.TheVariants.{Plain, Tables, Nodes, Published}
use Rattle.ring_reads.specs.declared.reads.Read.TheVariants.{EachMove, Moves, Preview}
use Rattle.http_routes.specs.declared.target.TargetAsk.{TargetAsk}
use Rattle.http_routes.specs.declared.target.TargetAsk.TheVariants.{Deliver, Import, Page, Read}
use Rattle.http_routes.specs.declared.target.TargetFault.{TargetFault}
use Rattle.http_routes.specs.declared.target.TargetFault.TheVariants as fault
use Rattle.http_routes.specs.Queries.{pairs_of, IsImportQuery, IsLogQuery, IsMovesQuery}
use Rattle.http_routes.specs.Queries.{IsPathQuery, IsPreviewQuery}
use Rattle.http_routes.specs.Routes.{IsOfRing}
use Rattle.http_routes.specs.Targets.{IsMalformed, IsUnreadable}

-- The route to this endpoint, with these segments and this query, asks for this.
abbrev pub RouteAsks : Endpoint → List ℕ → List ℕ → List ℕ → TargetAsk → Type 0
RouteAsks at ring version query Deliver = at ≡ endpoint.Requests
RouteAsks at ring version query (Import name key) =
    (at ≡ endpoint.Import) × (name ≡ ring) × IsTrue (is_label ring) × IsImportQuery (pairs_of query)
    key
RouteAsks at ring version query (Read (inquiry.Held question.Rings)) = at ≡ endpoint.Rings
RouteAsks at ring version query (Read (inquiry.Held question.Status)) = at ≡ endpoint.Status
RouteAsks at ring version query (Read (inquiry.Held question.Metrics)) = at ≡ endpoint.Metrics
RouteAsks at ring version query (Read (inquiry.Held (question.Ring name (Plain plain)))) =
    (at ≡ endpoint.Word plain) × (name ≡ ring) × IsTrue (is_label ring)
RouteAsks at ring version query (Read (inquiry.Held (question.Ring name Tables))) = ⊥
RouteAsks at ring version query (Read (inquiry.Held (question.Ring name (Nodes names)))) =
    (at ≡ endpoint.Nodes) × (name ≡ ring) × IsTrue (is_label ring)
    × IsPathQuery (pairs_of query) names × (is_path names ≡ true)
RouteAsks at ring version query
    (Read (inquiry.Held (question.Ring name (Published number format.Swift)))) =
    (at ≡ endpoint.Swift) × (name ≡ ring) × IsTrue (is_label ring) ×
    SpellsNumber version 0 greatest_long number
RouteAsks at ring version query
    (Read (inquiry.Held (question.Ring name (Published number format.Text)))) =
    (at ≡ endpoint.Text) × (name ≡ ring) × IsTrue (is_label ring) ×
    SpellsNumber version 0 greatest_long number
RouteAsks at ring version query (Read (inquiry.Held (question.Ring name (Preview seed hour)))) =
    (at ≡ endpoint.Preview) × (name ≡ ring) × IsTrue (is_label ring)
    × IsPreviewQuery (pairs_of query) seed hour
RouteAsks at ring version query (Read (inquiry.Held (question.Ring name (Moves from to)))) =
    (at ≡ endpoint.Moves) × (name ≡ ring) × IsTrue (is_label ring)
    × IsMovesQuery (pairs_of query) from to
RouteAsks at ring version query (Read (inquiry.Held (question.Ring name (EachMove from to)))) = ⊥
RouteAsks at ring version query (Read (inquiry.Log from most)) =
    (at ≡ endpoint.Log) × IsLogQuery (pairs_of query) from most
RouteAsks at ring version query Page = at ≡ endpoint.Page

-- The route of a ring asks for nothing, for this reason.
abbrev pub RingRouteFails : Endpoint → List ℕ → List ℕ → List ℕ → TargetFault → Type 0
RingRouteFails at ring version query (fault.Route why) = ⊥
RingRouteFails at ring version query fault.Unreadable =
    IsOfRing at × IsMalformed at ring version query
RingRouteFails at ring version query fault.BadPath =
    (at ≡ endpoint.Nodes) × IsTrue (is_label ring)
    × ((names : PathNames) → IsPathQuery (pairs_of query) names → is_path names ≢ true)
RingRouteFails at ring version query fault.NoMemory = ⊤

-- The route asks for nothing, for this reason.
abbrev pub RouteFails : Endpoint → List ℕ → List ℕ → List ℕ → TargetFault → Type 0
RouteFails at ring version query fault.Unreadable = IsUnreadable at ring version query
RouteFails at ring version query why = RingRouteFails at ring version query why

-- The query of the log asks for this.
abbrev pub LogAsks : List ℕ → TargetAsk → Type 0
LogAsks query (Read (inquiry.Log from most)) = IsLogQuery (pairs_of query) from most
LogAsks query other = ⊥

-- The query of the log asks for nothing, for this reason.
abbrev pub LogFails : List ℕ → TargetFault → Type 0
LogFails query fault.Unreadable =
    (said : ℕ × ℕ) → IsLogQuery (pairs_of query) said.0 said.1 → ⊥
LogFails query fault.NoMemory = ⊤
LogFails query other = ⊥
