-- Where the row of words leads, and which endpoints are of a ring.
use Rattle.std.proofs.Common.{◌≡◌, ◌∙◌, ℕ, List, codes, length, refl, sym, ap, arith}
use Rattle.http_routes.specs.Inner.Table.{RowLeadsTo}
use Rattle.http_routes.specs.Routes.{IsOfRing}
use Rattle.http_routes.specs.declared.routes.Endpoint.{Endpoint}
use Rattle.http_routes.specs.declared.routes.Endpoint.TheVariants as endpoint
use Rattle.http_routes.specs.declared.table.TableRow.TheVariants.{Word}
use Rattle.ring_reads.specs.Reads.{plain_word}
use Rattle.ring_reads.specs.declared.plain.Plain.{Plain}
use Rattle.ring_reads.specs.declared.plain.Plain.TheVariants as plain

-- the word of the whole ring leads nowhere
pub whole_word : (word : List ℕ) → word ≡ plain_word plain.Ring → (at : Endpoint)
    → RowLeadsTo Word word at → ⊥
whole_word word is (endpoint.Word plain.Devices) leads =
    omega (arith, ap (λ (l : List ℕ). length l) (sym is ∙ leads.1))
whole_word word is (endpoint.Word plain.Balance) leads =
    omega (arith, ap (λ (l : List ℕ). length l) (sym is ∙ leads.1))
whole_word word is (endpoint.Word plain.Ring) leads = leads.0 refl
whole_word word is (endpoint.Word plain.Locks) leads =
    omega (arith, ap (λ (l : List ℕ). length l) (sym is ∙ leads.1))
whole_word word is endpoint.Preview leads =
    omega (arith, ap (λ (l : List ℕ). length l) (sym is ∙ leads))
whole_word word is endpoint.Moves leads =
    omega (arith, ap (λ (l : List ℕ). length l) (sym is ∙ leads))
whole_word word is other leads = leads

-- a word that no plain read has, and neither a preview nor what moved, leads nowhere
pub no_word : (word : List ℕ) → ((asked : Plain) → word ≡ plain_word asked → ⊥)
    → (word ≡ codes "preview" → ⊥) → (word ≡ codes "moves" → ⊥) → (at : Endpoint)
    → RowLeadsTo Word word at → ⊥
no_word word none unseen unmoved (endpoint.Word asked) leads = none asked leads.1
no_word word none unseen unmoved endpoint.Preview leads = unseen leads
no_word word none unseen unmoved endpoint.Moves leads = unmoved leads
no_word word none unseen unmoved at leads = leads

-- an endpoint that is none of the six without a ring is of a ring
pub of_ring : (at : Endpoint) → (at ≡ endpoint.Requests → ⊥) → (at ≡ endpoint.Rings → ⊥) →
    (at ≡ endpoint.Status → ⊥) → (at ≡ endpoint.Metrics → ⊥) → (at ≡ endpoint.Log → ⊥) →
    (at ≡ endpoint.Page → ⊥) → IsOfRing at
of_ring endpoint.Requests no_requests no_rings no_status no_metrics no_log no_page = no_requests refl
of_ring endpoint.Rings no_requests no_rings no_status no_metrics no_log no_page = no_rings refl
of_ring endpoint.Status no_requests no_rings no_status no_metrics no_log no_page = no_status refl
of_ring endpoint.Metrics no_requests no_rings no_status no_metrics no_log no_page = no_metrics refl
of_ring endpoint.Log no_requests no_rings no_status no_metrics no_log no_page = no_log refl
of_ring endpoint.Page no_requests no_rings no_status no_metrics no_log no_page = no_page refl
of_ring endpoint.Import no_requests no_rings no_status no_metrics no_log no_page = tt
of_ring (endpoint.Word asked) no_requests no_rings no_status no_metrics no_log no_page = tt
of_ring endpoint.Nodes no_requests no_rings no_status no_metrics no_log no_page = tt
of_ring endpoint.Text no_requests no_rings no_status no_metrics no_log no_page = tt
of_ring endpoint.Swift no_requests no_rings no_status no_metrics no_log no_page = tt
of_ring endpoint.Preview no_requests no_rings no_status no_metrics no_log no_page = tt
of_ring endpoint.Moves no_requests no_rings no_status no_metrics no_log no_page = tt
