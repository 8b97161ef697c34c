-- What a route asks for is what its target asks for.
use Rattle.std.proofs.Common.{◌≡◌, ℕ, List, [], inl, inr, refl, sym, ap, subst, ◌∙◌, Result, Ok}
use Rattle.std.proofs.Common.{Err}
use Rattle.std.specs.Prelude.{MatchResult}
use Rattle.http_messages.specs.declared.request.Method.{Method}
use Rattle.http_routes.specs.declared.routes.Endpoint.{Endpoint}
use Rattle.http_routes.specs.declared.routes.Endpoint.TheVariants as endpoint
use Rattle.ring_log.specs.declared.inquiry.Inquiry.TheVariants as inquiry
use Rattle.ring_reads.specs.declared.reads.Format.TheVariants as format
use Rattle.ring_reads.specs.declared.reads.Question.TheVariants as question
use Rattle.ring_reads.specs.declared.reads.Read.TheVariants.{Plain, Tables, Nodes, Published}
use Rattle.ring_reads.specs.declared.reads.Read.TheVariants.{EachMove, Moves, Preview}
use Rattle.http_routes.specs.declared.target.TargetAsk.{TargetAsk}
use Rattle.http_routes.specs.declared.target.TargetAsk.TheVariants.{Deliver, Import, Page, Read}
use Rattle.http_routes.specs.declared.target.TargetFault.{TargetFault}
use Rattle.http_routes.specs.declared.target.TargetFault.TheVariants as fault
use Rattle.http_routes.specs.Inner.Routing.{LogAsks, LogFails, RingRouteFails, RouteAsks}
use Rattle.http_routes.specs.Inner.Routing.{RouteFails}
use Rattle.http_routes.specs.Routes.{HasRoute, endpoint_method}
use Rattle.http_routes.specs.Targets.{TargetAsks, TargetFails, target_path, target_query}

-- what the route of a ring is told is what a route is told
pub ring_told : (at : Endpoint) (ring version query : List ℕ)
    (result : Result TargetAsk TargetFault) →
    MatchResult result (RouteAsks at ring version query) (RingRouteFails at ring version query) →
    MatchResult result (RouteAsks at ring version query) (RouteFails at ring version query)
ring_told at ring version query (Ok ask) told = told
ring_told at ring version query (Err (fault.Route why)) told = told
ring_told at ring version query (Err fault.Unreadable) told = inl told
ring_told at ring version query (Err fault.BadPath) told = told
ring_told at ring version query (Err fault.NoMemory) told = told

-- and so is what the query of the log is told
pub log_told : (at : Endpoint) (ring version query : List ℕ) → at ≡ endpoint.Log →
    (result : Result TargetAsk TargetFault) → MatchResult result (LogAsks query) (LogFails query) →
    MatchResult result (RouteAsks at ring version query) (RouteFails at ring version query)
log_told at ring version query is (Ok Deliver) told = absurd told
log_told at ring version query is (Ok (Import name key)) told = absurd told
log_told at ring version query is (Ok Page) told = absurd told
log_told at ring version query is (Ok (Read (inquiry.Held question))) told = absurd told
log_told at ring version query is (Ok (Read (inquiry.Log from most))) told = (is, told)
log_told at ring version query is (Err (fault.Route why)) told = told
log_told at ring version query is (Err fault.Unreadable) told = inr (is, told)
log_told at ring version query is (Err fault.BadPath) told = absurd told
log_told at ring version query is (Err fault.NoMemory) told = told

module _ (target : List ℕ) (by : Method) (at : Endpoint) (ring version : List ℕ)
    (route : HasRoute (target_path target) at ring version) (right : by ≡ endpoint_method at) where
  abbrev Path : List ℕ
  Path = target_path target

  here : (other : Endpoint) → at ≡ other → HasRoute Path other ring version
  here other is = subst (λ (e : Endpoint). HasRoute Path e ring version) is route

  by_this : (other : Endpoint) → at ≡ other → by ≡ endpoint_method other
  by_this other is = right ∙ ap endpoint_method is

  pub told : (result : Result TargetAsk TargetFault) →
      MatchResult result (RouteAsks at ring version (target_query target))
      (RouteFails at ring version (target_query target))
      → MatchResult result (TargetAsks target by) (TargetFails target by)
  told (Ok Deliver) is = let h = here endpoint.Requests is in (
    by_this endpoint.Requests is,
    (h.0, refl, refl),
  )
  told (Ok (Import name key)) (is, named, label, query) =
      let h = here endpoint.Import is in (
        by_this endpoint.Import is,
        subst (λ (n : List ℕ). HasRoute Path endpoint.Import n [])
            (sym named) (h.0, h.1, refl),
        rw named label,
        query,
      )
  told (Ok (Read (inquiry.Held question.Rings))) is = let h = here endpoint.Rings is in (
    by_this endpoint.Rings is,
    (h.0, refl, refl),
  )
  told (Ok (Read (inquiry.Held question.Status))) is = let h = here endpoint.Status is in (
    by_this endpoint.Status is,
    (h.0, refl, refl),
  )
  told (Ok (Read (inquiry.Held question.Metrics))) is = let h = here endpoint.Metrics is in (
    by_this endpoint.Metrics is,
    (h.0, refl, refl),
  )
  told (Ok (Read (inquiry.Held (question.Ring name (Plain plain))))) (is, named, label) =
      let h = here (endpoint.Word plain) is in (
        by_this (endpoint.Word plain) is,
        (
          rw named label,
          subst (λ (n : List ℕ). HasRoute Path (endpoint.Word plain) n []) (sym named)
              (h.0, h.1, refl),
        ),
      )
  told (Ok
      (Read (inquiry.Held (question.Ring name (Nodes names))))) (is, named, label, query, good) =
      let h = here endpoint.Nodes is in (
        by_this endpoint.Nodes is,
        (
          rw named label,
          (
            subst (λ (n : List ℕ). HasRoute Path endpoint.Nodes n []) (sym named) (h.0, h.1, refl),
            query,
            good,
          ),
        ),
      )
  told (Ok (Read (inquiry.Held (question.Ring name Tables)))) asks = absurd asks
  told (Ok
      (Read (inquiry.Held (question.Ring name (Published number format.Swift))))) (is, named, label, spelled) =
      let h = here endpoint.Swift is in (
        by_this endpoint.Swift is,
        (
          rw named label,
          (
            version,
            subst (λ (n : List ℕ). HasRoute Path endpoint.Swift n version) (sym named) h,
            spelled,
          ),
        ),
      )
  told (Ok
      (Read (inquiry.Held (question.Ring name (Published number format.Text))))) (is, named, label, spelled) =
      let h = here endpoint.Text is in (
        by_this endpoint.Text is,
        (
          rw named label,
          (
            version,
            subst (λ (n : List ℕ). HasRoute Path endpoint.Text n version) (sym named) h,
            spelled,
          ),
        ),
      )
  told (Ok
      (Read (inquiry.Held (question.Ring name (Preview seed hour))))) (is, named, label, query) =
      let h = here endpoint.Preview is in (
        by_this endpoint.Preview is,
        (
          rw named label,
          (
            subst (λ (n : List ℕ). HasRoute Path endpoint.Preview n []) (sym named)
                (h.0, h.1, refl),
            query,
          ),
        ),
      )
  told (Ok (Read (inquiry.Held (question.Ring name (Moves from to))))) (is, named, label, query) =
      let h = here endpoint.Moves is in (
        by_this endpoint.Moves is,
        (
          rw named label,
          (
            subst (λ (n : List ℕ). HasRoute Path endpoint.Moves n []) (sym named) (h.0, h.1, refl),
            query,
          ),
        ),
      )
  told (Ok (Read (inquiry.Held (question.Ring name (EachMove from to))))) asks = absurd asks
  told (Ok (Read (inquiry.Log from most))) (is, query) = let h = here endpoint.Log is in (
    by_this endpoint.Log is,
    ((h.0, refl, refl), query),
  )
  told (Ok Page) is = let h = here endpoint.Page is in (
    by_this endpoint.Page is,
    (h.0, refl, refl),
  )
  told (Err (fault.Route why)) f = absurd f
  told (Err fault.Unreadable) f = (at, ring, version, route, right, f)
  told (Err fault.BadPath) f =
      let h = here endpoint.Nodes f.0 in (
        ring,
        (h.0, h.1, refl),
        by_this endpoint.Nodes f.0,
        f.1,
        f.2,
      )
  told (Err fault.NoMemory) f = tt
