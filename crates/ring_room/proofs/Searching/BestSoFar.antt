-- The best device of the first steps.
use Rattle.std.proofs.Common.{◌≡◌, ℕ, ◌+◌, ◌<◌, ◌≤◌, true, false, List, length, Option, Some, None, ap}
use Rattle.std.proofs.Common.{subst, sym, ◌∙◌, arith, below_more}
use Rattle.std.specs.Prelude.{slice_index}
use Rattle.std.proofs.lemmas.Bool.Decides.{nat_tests}
use Rattle.ring_share.specs.Crowd.{is_less}
use Rattle.ring_room.specs.Load.{Load, is_free_in, crowd_in}
use Rattle.ring_room.specs.Places.{id_at, place_after}
use Rattle.ring_room.specs.Inner.Places.{id_after, IsBestOf, IsBestSoFar}

pub not_less_trans : (a b c : ℕ × ℕ × ℕ) → is_less a b ≡ false → is_less b c ≡ false →
    is_less a c ≡ false
not_less_trans a b c h k = grind (arith, nat_tests)

-- with no fewer in its region it isn't less crowded than a floor by regions
pub not_less_by_region : (a : ℕ × ℕ × ℕ) (least : ℕ) → least ≤ a.0 → is_less a (least, 0, 0) ≡ false
not_less_by_region a least le = grind (arith, nat_tests)

pub not_less_self : (a : ℕ × ℕ × ℕ) → is_less a a ≡ false
not_less_self a = grind (arith, nat_tests)

pub not_less_after : (a b : ℕ × ℕ × ℕ) → is_less a b ≡ true → is_less b a ≡ false
not_less_after a b h = grind (arith, nat_tests)

-- this place comes at this step
abbrev pub ComesAt : List ℕ → ℕ → ℕ → ℕ → Type 0
ComesAt places start step place = place ≡ slice_index places (place_after (length places) start
    step)

free_step : (load : Load) (row : List (Option ℕ)) (places : List ℕ) (start step place : ℕ) →
    ComesAt places start step place → is_free_in load row (id_after load places start step) ≡
    is_free_in load row (id_at load.devices place)
free_step load row places start step place at = ap (λ p. is_free_in load row (id_at load.devices p))
    (sym at)

pub best_skip : (load : Load) (row : List (Option ℕ)) (places : List ℕ) (start step place : ℕ)
    (best : Option (ℕ × (ℕ × ℕ × ℕ))) → ComesAt places start step place →
    IsBestSoFar places start step load row best
    → is_free_in load row (id_at load.devices place) ≡ false → IsBestSoFar places start (step + 1)
    load row best
best_skip load row places start step place None at so_far fails =
    below_more (λ s. is_free_in load row (id_after load places start s) ≡ false) step so_far
    (free_step load row places start step place at ∙ fails)
best_skip load row places start step place (Some best) at so_far fails = (
  record {
    within = so_far.0.within;
    free = so_far.0.free;
    least = below_more (λ s. is_free_in load row (id_after load places start s) ≡ true →
        is_less (crowd_in load row (id_after load places start s))
        (crowd_in load row (id_at load.devices best.0)) ≡ false)
        step so_far.0.least (λ free. absurd (cc (
          free,
          free_step load row places start step place
              at,
          fails,
        )));
  },
  so_far.1,
)

pub best_first : (load : Load) (row : List (Option ℕ)) (places : List ℕ) (start step place : ℕ) →
    ComesAt places start step place → place < length load.devices →
    IsBestSoFar places start step load row None
    → is_free_in load row (id_at load.devices place) ≡ true → IsBestOf places start (step + 1) load
    row place
best_first load row places start step place at lt so_far free = record {
  within = lt;
  free = free;
  least = below_more (λ s. is_free_in load row (id_after load places start s) ≡ true →
      is_less (crowd_in load row (id_after load places start s))
      (crowd_in load row (id_at load.devices place)) ≡ false)
      step (λ s less passes. absurd (cc (so_far s less, passes)))
      (λ passes. subst (λ p. is_less (crowd_in load row (id_at load.devices p))
      (crowd_in load row (id_at load.devices place)) ≡ false) at
      (not_less_self (crowd_in load row (id_at load.devices place))));
}

pub best_take : (load : Load) (row : List (Option ℕ)) (places : List ℕ) (start step place best : ℕ)
    → ComesAt places start step place → place < length load.devices →
    IsBestOf places start step load row best
    → is_free_in load row (id_at load.devices place) ≡ true →
    is_less (crowd_in load row (id_at load.devices place))
    (crowd_in load row (id_at load.devices best)) ≡ true → IsBestOf places start (step + 1) load
    row place
best_take load row places start step place best at lt so_far free less = record {
  within = lt;
  free = free;
  least = below_more (λ s. is_free_in load row (id_after load places start s) ≡ true →
      is_less (crowd_in load row (id_after load places start s))
      (crowd_in load row (id_at load.devices place)) ≡ false)
      step
      (λ s below passes. not_less_trans (crowd_in load row (id_after load places start s))
      (crowd_in load row (id_at load.devices best))
      (crowd_in load row (id_at load.devices place)) (so_far.least s below passes)
      (not_less_after (crowd_in load row (id_at load.devices place))
      (crowd_in load row (id_at load.devices best)) less))
      (λ passes. subst (λ p. is_less (crowd_in load row (id_at load.devices p))
      (crowd_in load row (id_at load.devices place)) ≡ false) at
      (not_less_self (crowd_in load row (id_at load.devices place))));
}

pub best_keep : (load : Load) (row : List (Option ℕ)) (places : List ℕ) (start step place best : ℕ)
    → ComesAt places start step place → IsBestOf places start step load row best
    → is_less (crowd_in load row (id_at load.devices place))
    (crowd_in load row (id_at load.devices best)) ≡ false → IsBestOf places start (step + 1)
    load row best
best_keep load row places start step place best at so_far fails = record {
  within = so_far.within;
  free = so_far.free;
  least = below_more (λ s. is_free_in load row (id_after load places start s) ≡ true →
      is_less (crowd_in load row (id_after load places start s))
      (crowd_in load row (id_at load.devices best)) ≡ false)
      step so_far.least (λ passes. subst (λ p. is_less (crowd_in load row (id_at load.devices p))
      (crowd_in load row (id_at load.devices best)) ≡ false) at fails);
}
