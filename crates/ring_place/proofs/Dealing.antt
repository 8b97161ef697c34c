-- Cards that are made and dealt.
use Rattle.std.proofs.Common.{◌≡◌, ◌∙◌, ℕ, ◌+◌, ◌<◌, ◌++◌, ◌∷◌, [], All, Bool, List, ap, arith, cond, filter}
use Rattle.std.proofs.Common.{get_or, length, subst, sym}
use Rattle.std.specs.List.{range_with_len}
use Rattle.std.proofs.lemmas.List.Elements.{All-filter, filter-append}
use Rattle.std.proofs.lemmas.List.FromFn.{get_or-range_with_len, length-range_with_len}
use Rattle.ring_room.specs.Load.{Load}
use Rattle.ring_deal.proofs.Lists.{range_more}
use Rattle.ring_place.specs.Made.{is_first, zone_places}

-- the numbers that pass a test, and one more that does or doesn't
pub passing_more : (f : ℕ → Bool) (place : ℕ) (places next : List ℕ) (b : Bool)
    → places ≡ filter f (range_with_len 0 place) → b ≡ f place
    → next ≡ places ++ cond b (place ∷ []) [] → next ≡ filter f (range_with_len 0 (place + 1))
passing_more f place places next b before told is =
    is ∙ ap (λ b. places ++ cond b (place ∷ []) []) told
    ∙ ap (λ ps. ps ++ cond (f place) (place ∷ []) []) before
    ∙ sym (filter-append f (range_with_len 0 place) (place ∷ []))
    ∙ ap (filter f) (sym (range_more place))

-- the places of zones are places of devices
pub zone_within : (load : Load) (places : List ℕ) (n : ℕ) → places ≡ zone_places load
    → n < length places → get_or places n 0 < length load.devices
zone_within load places n same lt =
    let all = range_with_len 0 (length load.devices) in
    let long = length-range_with_len 0 (length load.devices) in
    let each : All (λ place. place < length load.devices) all = λ k d below.
    (let at = get_or-range_with_len 0 (length load.devices) k d (omega (arith, below, long)) in
    omega (arith, at, below, long)) in
    subst (λ ps. All (λ place. place < length load.devices) ps) (sym same)
    (All-filter (is_first load) (λ place. place < length load.devices) all each) n 0 lt
