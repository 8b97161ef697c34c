-- What calls come to where the store failed in some of them.
use Rattle.std.specs.Prelude.{◌++◌, ◌≡◌, ◌∷◌, ◌⊎◌, Err, List, Ok, []}
use Rattle.request_book.specs.Call.{Call, Deliver, Load}
use Rattle.request_book.specs.declared.book.Fault.TheVariants.{Closed, StoreFault}

-- What a call comes to. Where the store failed in a delivery, it is as if that had had a reply, which
-- nobody got, or as if it had not come. A read in which the store failed and a call of a closed book
-- come to nothing, and any other call to itself.
abbrev pub ComesTo : {C R : Type 0} → Call C R → List (Call C R) → Type 0
ComesTo {C} {R} (Deliver delivery (Err StoreFault)) settled = (settled ≡ []) ⊎
    ((reply : R) × (settled ≡ Deliver delivery (Ok reply) ∷ []))
ComesTo (Load (Err StoreFault)) settled = settled ≡ []
ComesTo (Deliver delivery (Err Closed)) settled = settled ≡ []
ComesTo (Load (Err Closed)) settled = settled ≡ []
ComesTo call settled = settled ≡ call ∷ []

-- What calls come to, one after another.
abbrev pub ComeTo : {C R : Type 0} → List (Call C R) → List (Call C R) → Type 0
ComeTo [] settled = settled ≡ []
ComeTo {C} {R} (call ∷ calls) settled = (here : List (Call C R)) × (later : List (Call C R)) ×
    ComesTo call here × ComeTo calls later × (settled ≡ here ++ later)
