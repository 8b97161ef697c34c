-- What is measured of rings, one after another.
use Rattle.std.proofs.Common.{◌≡◌, ℕ, zero, suc, ◌+◌, ◌<◌, ◌∙◌, List, [], ◌∷◌, ◌++◌, get_or, length}
use Rattle.std.proofs.Common.{take, ap, arith, refl, sym}
use Rattle.std.specs.declared.alloc.Global.{Global}
use Rattle.std.specs.declared.rc.Rc.{Rc}
use Rattle.std.proofs.lemmas.List.{map_more}
use Rattle.ring_model.specs.Ring.{RingRecord}
use Rattle.ring_model.specs.Rings.{seen}
use Rattle.ring_model.specs.declared.ring.Ring.{Ring}
use Rattle.ring_metrics.specs.Measures.{AreMeasured, IsMeasured}
use Rattle.ring_metrics.specs.declared.measures.Measured.{Measured}

-- an element that is read at a place
pub some_at : {X : Type 0} (xs : List X) (i : ℕ) → i < length xs → (x : X) × (x ≡ get_or xs i x)
some_at [] i lt = absurd (omega (arith, lt))
some_at (x ∷ xs) zero lt = (x, refl)
some_at (x ∷ xs) (suc i) lt = let more = some_at xs i (omega (arith, lt)) in (more.0, more.1)

-- what is measured of one ring more
pub measured_more : (rings : List (List ℕ × RingRecord)) (hour : ℕ) (all : List Measured)
    (entry : List ℕ × RingRecord) (measured : Measured) → AreMeasured rings hour all →
    IsMeasured entry hour measured →
    AreMeasured (rings ++ entry ∷ []) hour (all ++ measured ∷ [])
measured_more [] hour [] entry measured are is = (is, tt)
measured_more [] hour (other ∷ all) entry measured are is = absurd are
measured_more (ring ∷ rings) hour [] entry measured are is = absurd are
measured_more (ring ∷ rings) hour (other ∷ all) entry measured are is =
    (are.0, measured_more rings hour all entry measured are.1 is)

-- what is seen of one shared ring more
pub seen_more : (entries : List (List ℕ × Rc Ring Global)) (i : ℕ) (entry : List ℕ × Rc Ring Global)
    → i < length entries → entry ≡ get_or entries i entry →
    seen (take (i + 1) entries) ≡ seen (take i entries) ++ (entry.0, entry.1.value) ∷ []
seen_more entries i entry lt at =
    map_more (λ (e : List ℕ × Rc Ring Global). (e.0, e.1.value)) entries i entry lt
    ∙ ap (λ (e : List ℕ × Rc Ring Global). seen (take i entries) ++ (e.0, e.1.value) ∷ []) (sym at)
