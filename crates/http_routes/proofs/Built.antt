-- What the router holds after each route.
use Rattle.std.proofs.Common.{◌≡◌, List, [], ◌∷◌, ℕ, Result, Ok, Err, codes, refl}
use Rattle.std.specs.Prelude.{IfOk}
use Rattle.matchit.proofs.OnLiterals.{matchit_on_literals}
use Rattle.matchit.specs.Route.{parse_route}
use Rattle.matchit.specs.Router.{RouteOf}
use Rattle.matchit.specs.Rows.{RowsOf}
use Rattle.http_routes.specs.Inner.Table.{IsAdded, IsNewRoute, all_routes, import_row, log_row}
use Rattle.http_routes.specs.Inner.Table.{metrics_row, requests_row}
use Rattle.http_routes.specs.Inner.Table.{ring_row, rings_row, status_row, swift_row, text_row}
use Rattle.http_routes.specs.Inner.Table.{whole_row, word_row}
use Rattle.http_routes.specs.declared.table.TableRow.{TableRow}
use Rattle.http_routes.specs.declared.table.TableRow.TheVariants.{Requests, Import, Nodes, Text}
use Rattle.http_routes.specs.declared.table.TableRow.TheVariants.{Log, Metrics, Ring, Rings, Status}
use Rattle.http_routes.specs.declared.table.TableRow.TheVariants.{Page, Swift, Word}

abbrev Rows : Type 0
Rows = RowsOf (RouteOf TableRow)

abbrev pub nodes_row : List ℕ × RouteOf TableRow
nodes_row = ring_row (codes "/nodes") Nodes

pub none-before : (rows : Rows) → rows ≡ [] → IsNewRoute (parse_route (codes "/v1/requests")) rows
unfolding matchit_on_literals
none-before rows is = rw is refl

pub one : (old rows : Rows) → old ≡ []
    → IsAdded (parse_route (codes "/v1/requests")) Requests old rows
    → rows ≡ requests_row ∷ []
unfolding matchit_on_literals
one old rows is added = rw (added, is) refl

pub after-one : (rows : Rows) → rows ≡ requests_row ∷ []
    → IsNewRoute (parse_route (codes "/v1/import/{ring}")) rows
unfolding matchit_on_literals
after-one rows is = rw is refl

pub two : (old rows : Rows) → old ≡ requests_row ∷ []
    → IsAdded (parse_route (codes "/v1/import/{ring}")) Import old rows
    → rows ≡ import_row ∷ requests_row ∷ []
unfolding matchit_on_literals
two old rows is added = rw (added, is) refl

pub after-two : (rows : Rows) → rows ≡ import_row ∷ requests_row ∷ []
    → IsNewRoute (parse_route (codes "/v1/rings/{ring}/nodes")) rows
unfolding matchit_on_literals
after-two rows is = rw is refl

pub three : (old rows : Rows) → old ≡ import_row ∷ requests_row ∷ []
    → IsAdded (parse_route (codes "/v1/rings/{ring}/nodes")) Nodes old rows
    → rows ≡ import_row ∷ requests_row ∷ nodes_row ∷ []
unfolding matchit_on_literals
three old rows is added = rw (added, is) refl

pub after-three : (rows : Rows) → rows ≡ import_row ∷ requests_row ∷ nodes_row ∷ []
    → IsNewRoute (parse_route (codes "/v1/rings/{ring}/text/{version}")) rows
unfolding matchit_on_literals
after-three rows is = rw is refl

pub four : (old rows : Rows) → old ≡ import_row ∷ requests_row ∷ nodes_row ∷ []
    → IsAdded (parse_route (codes "/v1/rings/{ring}/text/{version}")) Text old rows
    → rows ≡ import_row ∷ requests_row ∷ nodes_row ∷ text_row ∷ []
unfolding matchit_on_literals
four old rows is added = rw (added, is) refl

pub after-four : (rows : Rows) → rows ≡ import_row ∷ requests_row ∷ nodes_row ∷ text_row ∷ []
    → IsNewRoute (parse_route (codes "/v1/rings/{ring}/{word}")) rows
unfolding matchit_on_literals
after-four rows is = rw is refl

pub five : (old rows : Rows) → old ≡ import_row ∷ requests_row ∷ nodes_row ∷ text_row ∷ []
    → IsAdded (parse_route (codes "/v1/rings/{ring}/{word}")) Word old rows
    → rows ≡ import_row ∷ requests_row ∷ nodes_row ∷ text_row ∷ word_row ∷ []
unfolding matchit_on_literals
five old rows is added = rw (added, is) refl

pub after-five : (rows : Rows)
    → rows ≡ import_row ∷ requests_row ∷ nodes_row ∷ text_row ∷ word_row ∷ []
    → IsNewRoute (parse_route (codes "/v1/rings/{ring}")) rows
unfolding matchit_on_literals
after-five rows is = rw is refl

pub six : (old rows : Rows) → old ≡ import_row ∷ requests_row ∷ nodes_row ∷ text_row ∷ word_row ∷ []
    → IsAdded (parse_route (codes "/v1/rings/{ring}")) Ring old rows
    → rows ≡ import_row ∷ requests_row ∷ nodes_row ∷ text_row ∷ word_row ∷ whole_row ∷ []
unfolding matchit_on_literals
six old rows is added = rw (added, is) refl

pub after-six : (rows : Rows)
    → rows ≡ import_row ∷ requests_row ∷ nodes_row ∷ text_row ∷ word_row ∷ whole_row ∷ []
    → IsNewRoute (parse_route (codes "/v1/rings")) rows
unfolding matchit_on_literals
after-six rows is = rw is refl

pub seven : (old rows : Rows)
    → old ≡ import_row ∷ requests_row ∷ nodes_row ∷ text_row ∷ word_row ∷ whole_row ∷ []
    → IsAdded (parse_route (codes "/v1/rings")) Rings old rows
    → rows ≡ import_row ∷ requests_row ∷ nodes_row ∷ text_row ∷ word_row ∷ whole_row ∷ rings_row ∷ []
unfolding matchit_on_literals
seven old rows is added = rw (added, is) refl

pub after-seven : (rows : Rows)
    → rows ≡ import_row ∷ requests_row ∷ nodes_row ∷ text_row ∷ word_row ∷ whole_row ∷ rings_row ∷ []
    → IsNewRoute (parse_route (codes "/v1/status")) rows
unfolding matchit_on_literals
after-seven rows is = rw is refl

pub eight : (old rows : Rows)
    → old ≡ import_row ∷ requests_row ∷ nodes_row ∷ text_row ∷ word_row ∷ whole_row ∷ rings_row ∷ []
    → IsAdded (parse_route (codes "/v1/status")) Status old rows
    → rows ≡ import_row ∷ requests_row ∷ nodes_row ∷ text_row ∷ word_row ∷ whole_row ∷ rings_row ∷
    status_row ∷ []
unfolding matchit_on_literals
eight old rows is added = rw (added, is) refl

pub after-eight : (rows : Rows)
    → rows ≡ import_row ∷ requests_row ∷ nodes_row ∷ text_row ∷ word_row ∷ whole_row ∷ rings_row ∷
    status_row ∷ []
    → IsNewRoute (parse_route (codes "/v1/metrics")) rows
unfolding matchit_on_literals
after-eight rows is = rw is refl

pub nine : (old rows : Rows)
    → old ≡ import_row ∷ requests_row ∷ nodes_row ∷ text_row ∷ word_row ∷ whole_row ∷ rings_row ∷
    status_row ∷ []
    → IsAdded (parse_route (codes "/v1/metrics")) Metrics old rows
    → rows ≡ import_row ∷ metrics_row ∷ requests_row ∷ nodes_row ∷ text_row ∷ word_row ∷
    whole_row ∷ rings_row ∷ status_row ∷ []
unfolding matchit_on_literals
nine old rows is added = rw (added, is) refl

pub after-nine : (rows : Rows)
    → rows ≡ import_row ∷ metrics_row ∷ requests_row ∷ nodes_row ∷ text_row ∷ word_row ∷
    whole_row ∷ rings_row ∷ status_row ∷ []
    → IsNewRoute (parse_route (codes "/v1/rings/{ring}/swift/{version}")) rows
unfolding matchit_on_literals
after-nine rows is = rw is refl

pub ten : (old rows : Rows)
    → old ≡ import_row ∷ metrics_row ∷ requests_row ∷ nodes_row ∷ text_row ∷ word_row ∷
    whole_row ∷ rings_row ∷ status_row ∷ []
    → IsAdded (parse_route (codes "/v1/rings/{ring}/swift/{version}")) Swift old rows
    → rows ≡ import_row ∷ metrics_row ∷ requests_row ∷ nodes_row ∷ swift_row ∷ text_row ∷
    word_row ∷ whole_row ∷ rings_row ∷ status_row ∷ []
unfolding matchit_on_literals
ten old rows is added = rw (added, is) refl

pub after-ten : (rows : Rows)
    → rows ≡ import_row ∷ metrics_row ∷ requests_row ∷ nodes_row ∷ swift_row ∷ text_row ∷
    word_row ∷ whole_row ∷ rings_row ∷ status_row ∷ []
    → IsNewRoute (parse_route (codes "/v1/log")) rows
unfolding matchit_on_literals
after-ten rows is = rw is refl

pub eleven : (old rows : Rows)
    → old ≡ import_row ∷ metrics_row ∷ requests_row ∷ nodes_row ∷ swift_row ∷ text_row ∷
    word_row ∷ whole_row ∷ rings_row ∷ status_row ∷ []
    → IsAdded (parse_route (codes "/v1/log")) Log old rows
    → rows ≡ import_row ∷ log_row ∷ metrics_row ∷ requests_row ∷ nodes_row ∷ swift_row ∷
    text_row ∷ word_row ∷ whole_row ∷ rings_row ∷ status_row ∷ []
unfolding matchit_on_literals
eleven old rows is added = rw (added, is) refl

pub after-eleven : (rows : Rows)
    → rows ≡ import_row ∷ log_row ∷ metrics_row ∷ requests_row ∷ nodes_row ∷ swift_row ∷
    text_row ∷ word_row ∷ whole_row ∷ rings_row ∷ status_row ∷ []
    → IsNewRoute (parse_route (codes "/v1/page")) rows
unfolding matchit_on_literals
after-eleven rows is = rw is refl

twelve : (old rows : Rows)
    → old ≡ import_row ∷ log_row ∷ metrics_row ∷ requests_row ∷ nodes_row ∷ swift_row ∷
    text_row ∷ word_row ∷ whole_row ∷ rings_row ∷ status_row ∷ []
    → IsAdded (parse_route (codes "/v1/page")) Page old rows
    → rows ≡ all_routes
unfolding matchit_on_literals
twelve old rows is added = rw (added, is) refl

-- the last route may find no memory
pub all-added : {A E : Type 0} (result : Result A E) (old rows : Rows)
    → old ≡ import_row ∷ log_row ∷ metrics_row ∷ requests_row ∷ nodes_row ∷ swift_row ∷
    text_row ∷ word_row ∷ whole_row ∷ rings_row ∷ status_row ∷ []
    → IfOk result (λ _. IsAdded (parse_route (codes "/v1/page")) Page old rows)
    → IfOk result (λ _. rows ≡ all_routes)
all-added (Ok done) old rows is added = twelve old rows is added
all-added (Err why) old rows is added = tt
