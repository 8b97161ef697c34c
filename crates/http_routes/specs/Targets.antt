-- What a target asks for, and why it may ask for nothing.
use Rattle.std.specs.Prelude.{◌≡◌, ◌≢◌, ◌⊎◌, ◌==◌, ◌+◌, ℕ, List, [], ⊤, IsTrue, true, drop, length}
use Rattle.ring_words.specs.Limits.{greatest_long}
use Rattle.std.specs.Prelude.{position, take, unwrap_or}
use Rattle.http_messages.specs.declared.faults.RouteFault.TheVariants.{NoRoute, WrongMethod}
use Rattle.http_messages.specs.declared.request.Method.{Method}
use Rattle.http_messages.specs.declared.request.Method.TheVariants as method
use Rattle.ring_log.specs.declared.inquiry.Inquiry.{Inquiry}
use Rattle.ring_log.specs.declared.inquiry.Inquiry.TheVariants as inquiry
use Rattle.ring_reads.specs.declared.reads.Question.TheVariants as question
use Rattle.ring_reads.specs.declared.reads.Read.{Read as RingRead}
use Rattle.path_lookup.specs.Names.{PathNames, is_path}
use Rattle.ring_words.specs.Spelling.{SpellsNumber}
use Rattle.ring_words.specs.Texts.{is_label}
use Rattle.ring_words.specs.declared.request.Key.{Key}
use Rattle.http_routes.specs.declared.routes.Endpoint.{Endpoint}
use Rattle.http_routes.specs.declared.routes.Endpoint.TheVariants as endpoint
use Rattle.http_routes.specs.declared.target.TargetAsk.{TargetAsk}
use Rattle.http_routes.specs.declared.target.TargetAsk.TheVariants.{Deliver, Import, Page, Read}
use Rattle.ring_reads.specs.declared.reads.Format.TheVariants as format
use Rattle.ring_reads.specs.declared.reads.Read.TheVariants.{Plain, Tables, Nodes, Published}
use Rattle.ring_reads.specs.declared.reads.Read.TheVariants.{EachMove, Moves, Preview}
use Rattle.http_routes.specs.declared.target.TargetFault.{TargetFault}
use Rattle.http_routes.specs.declared.target.TargetFault.TheVariants as fault
use Rattle.http_routes.specs.Queries.{pairs_of, IsImportQuery, IsLogQuery, IsMovesQuery}
use Rattle.http_routes.specs.Queries.{IsPathQuery, IsPreviewQuery}
use Rattle.http_routes.specs.Routes.{endpoint_method, HasRoute, IsOfRing}

-- where the first question mark of a target is, or its end
abbrev pub path_end : List ℕ → ℕ
path_end target = unwrap_or (position (λ byte. byte == 63) target) (length target)

-- the part of a target before its first question mark
abbrev pub target_path : List ℕ → List ℕ
target_path target = take (path_end target) target

-- the part of a target behind its first question mark
abbrev pub target_query : List ℕ → List ℕ
target_query target = drop (path_end target + 1) target

-- The path and the query ask that this is read of the ring of this name.
abbrev pub ReadsRing : List ℕ → List ℕ → List ℕ → RingRead → Type 0
ReadsRing path query ring (Plain plain) = HasRoute path (endpoint.Word plain) ring []
ReadsRing path query ring Tables = ⊥
ReadsRing path query ring (Nodes names) =
    HasRoute path endpoint.Nodes ring [] × IsPathQuery (pairs_of query) names ×
    (is_path names ≡ true)
ReadsRing path query ring (Published version format.Swift) =
    (segment : List ℕ) × HasRoute path endpoint.Swift ring segment ×
    SpellsNumber segment 0 greatest_long version
ReadsRing path query ring (Published version format.Text) =
    (segment : List ℕ) × HasRoute path endpoint.Text ring segment ×
    SpellsNumber segment 0 greatest_long version
ReadsRing path query ring (Preview seed hour) =
    HasRoute path endpoint.Preview ring [] × IsPreviewQuery (pairs_of query) seed hour
ReadsRing path query ring (Moves from to) =
    HasRoute path endpoint.Moves ring [] × IsMovesQuery (pairs_of query) from to
ReadsRing path query ring (EachMove from to) = ⊥

-- The path and the query ask that this is read. The name of a ring is of its form.
abbrev pub AsksRead : List ℕ → List ℕ → Inquiry → Type 0
AsksRead path query (inquiry.Held question.Rings) = HasRoute path endpoint.Rings [] []
AsksRead path query (inquiry.Held question.Status) = HasRoute path endpoint.Status [] []
AsksRead path query (inquiry.Held question.Metrics) = HasRoute path endpoint.Metrics [] []
AsksRead path query (inquiry.Held (question.Ring ring what)) =
    IsTrue (is_label ring) × ReadsRing path query ring what
AsksRead path query (inquiry.Log from most) =
    HasRoute path endpoint.Log [] [] × IsLogQuery (pairs_of query) from most

-- The target asks for this by this method. The names of rings and the numbers are of their forms.
abbrev pub TargetAsks : List ℕ → Method → TargetAsk → Type 0
TargetAsks target by Deliver = (by ≡ method.Post) × HasRoute (target_path target) endpoint.Requests
    [] []
TargetAsks target by (Import ring key) =
    (by ≡ method.Post) × HasRoute (target_path target) endpoint.Import ring [] ×
    IsTrue (is_label ring)
    × IsImportQuery (pairs_of (target_query target)) key
TargetAsks target by (Read asked) =
    (by ≡ method.Get) × AsksRead (target_path target) (target_query target) asked
TargetAsks target by Page = (by ≡ method.Get) × HasRoute (target_path target) endpoint.Page [] []

-- What stands in a route is not of its form: the ring's name, the version, or the query of an
-- import, of a preview or of what moved.
abbrev pub IsMalformed : Endpoint → List ℕ → List ℕ → List ℕ → Type 0
IsMalformed at ring version query =
    (IsTrue (is_label ring) → ⊥)
    ⊎ ((at ≡ endpoint.Import) × ((key : Key) → IsImportQuery (pairs_of query) key → ⊥))
    ⊎ ((at ≡ endpoint.Text) × ((number : ℕ) → SpellsNumber version 0 greatest_long number → ⊥))
    ⊎ ((at ≡ endpoint.Swift) × ((number : ℕ) → SpellsNumber version 0 greatest_long number → ⊥))
    ⊎ ((at ≡ endpoint.Preview)
    × ((said : ℕ × ℕ) → IsPreviewQuery (pairs_of query) said.0 said.1 → ⊥))
    ⊎ ((at ≡ endpoint.Moves)
    × ((said : ℕ × ℕ) → IsMovesQuery (pairs_of query) said.0 said.1 → ⊥))

-- What stands behind the path of a route is not of its form: in a route of a ring as above, in that
-- of the log its query.
abbrev pub IsUnreadable : Endpoint → List ℕ → List ℕ → List ℕ → Type 0
IsUnreadable at ring version query =
    (IsOfRing at × IsMalformed at ring version query)
    ⊎ ((at ≡ endpoint.Log) × ((said : ℕ × ℕ) → IsLogQuery (pairs_of query) said.0 said.1 → ⊥))

-- The target asks by this method for nothing, for this reason. Want of memory says nothing.
abbrev pub TargetFails : List ℕ → Method → TargetFault → Type 0
TargetFails target by (fault.Route NoRoute) =
    (at : Endpoint) (ring version : List ℕ) → HasRoute (target_path target) at ring version → ⊥
TargetFails target by (fault.Route (WrongMethod other)) =
    (at : Endpoint) × (ring : List ℕ) × (version : List ℕ) × HasRoute (target_path target) at ring
    version
    × (other ≡ endpoint_method at) × (by ≢ other)
TargetFails target by fault.Unreadable =
    (at : Endpoint) × (ring : List ℕ) × (version : List ℕ) × HasRoute (target_path target) at ring
    version
    × (by ≡ endpoint_method at) × IsUnreadable at ring version (target_query target)
TargetFails target by fault.BadPath =
    (ring : List ℕ) × HasRoute (target_path target) endpoint.Nodes ring [] × (by ≡ method.Get) ×
    IsTrue (is_label ring)
    × ((names : PathNames) → IsPathQuery (pairs_of (target_query target)) names →
    is_path names ≢ true)
TargetFails target by fault.NoMemory = ⊤
