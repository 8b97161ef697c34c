-- A part of a ring's route that is bad, or for which there is no memory.
use Rattle.std.proofs.Common.{Err, ℕ, List}
use Rattle.ring_words.specs.Spelling.{Reads}
use Rattle.ring_words.specs.declared.spelling.SpellingFault.{SpellingFault}
use Rattle.ring_words.specs.declared.spelling.SpellingFault.TheVariants.{Bad, NoMemory}
use Rattle.http_routes.specs.Faults.{spelling_fault}
use Rattle.http_routes.specs.Inner.Routing.{RingRouteFails}
use Rattle.http_routes.specs.Routes.{IsOfRing}
use Rattle.http_routes.specs.Targets.{IsMalformed}
use Rattle.http_routes.specs.declared.routes.Endpoint.{Endpoint}

pub bad_part : {X : Type 0} (P : X → Type 0) (at : Endpoint) (ring version query : List ℕ)
    (e : SpellingFault) → IsOfRing at → Reads P (Err e)
    → (((x : X) → P x → ⊥) → IsMalformed at ring version query)
    → RingRouteFails at ring version query (spelling_fault e)
bad_part P at ring version query Bad of_ring bad malformed = (of_ring, malformed bad)
bad_part P at ring version query NoMemory of_ring bad malformed = tt
