-- The best of a partition's seats that may leave their devices.
use Rattle.std.proofs.Common.{◌≡◌, ◌∙◌, ℕ, ◌+◌, ◌<◌, Bool, true, false, cond, not, ◌&&◌, List}
use Rattle.std.proofs.Common.{length, get_or, Option, Some, None, is_some, refl, ap, sym, subst}
use Rattle.std.proofs.Common.{⊎_elim, arith, below_more, IfSome, IfNone}
use Rattle.std.specs.List.{list_any, range_with_len}
use Rattle.std.specs.Option.{option_map}
use Rattle.std.proofs.lemmas.Bool.{and_left, and_right, cases_Bool}
use Rattle.std.proofs.lemmas.Bool.Decides.{nat_tests}
use Rattle.std.proofs.lemmas.List.Folds.{list_any_none}
use Rattle.std.proofs.lemmas.List.FromFn.{length-range_with_len, get_or-range_with_len}
use Rattle.std.proofs.lemmas.Option.{same_Some}
use Rattle.ring_share.proofs.Rows.{some_below}
use Rattle.ring_room.specs.Free.{is_crowded_in}
use Rattle.ring_room.specs.Load.{Load}
use Rattle.ring_room.proofs.Steps.{first_is, first_none}
use Rattle.ring_place.specs.declared.gather.Pass.{Pass}
use Rattle.ring_place.specs.declared.gather.Pass.TheVariants.{First}
use Rattle.ring_place.specs.declared.surplus.Gift.{Gift}
use Rattle.ring_place.specs.Made.{beats, best_of, best_seat, gift_by, gift_of, gift_to, is_best}
use Rattle.ring_place.specs.Made.{first_place, is_better, is_drained_in}
use Rattle.ring_place.specs.Inner.Gathering.{AreCalm}
use Rattle.ring_place.proofs.Rows.LiftedSeats.{seat_at}

-- ---- the better of two

no_better_self : (a : Gift) → is_better a a ≡ false
no_better_self a = grind (arith, nat_tests)

no_better_after : (a b : Gift) → is_better a b ≡ true → is_better b a ≡ false
no_better_after a b h = grind (arith, nat_tests)

no_better_trans : (a b c : Gift) → is_better a b ≡ false → is_better b c ≡ false →
    is_better a c ≡ false
no_better_trans a b c h k = grind (arith, nat_tests)

-- what is no better than one is worse than any that is better than that
worse : (new old k : Gift) → is_better new old ≡ true → is_better k old ≡ false →
    is_better new k ≡ true
worse new old k better never = ⊎_elim (λ is. is)
    (λ isn't. absurd (let absent = no_better_trans new k old isn't never in cc (better, absent)))
    (cases_Bool (is_better new k))

-- ---- the best so far

-- The seat is the first of those of so many replicas than which none is better.
pub record IsBestAt (gift : ℕ → Option Gift) (count : ℕ) (best : Gift) : Type 0 where
  pub within : best.replica < count
  pub is : gift best.replica ≡ Some best
  pub none_better : (k : ℕ) → k < count → beats (gift k) (Some best) ≡ false
  pub first : (k : ℕ) → k < best.replica → beats (Some best) (gift k) ≡ true

-- So it is, or there is none.
abbrev pub IsBestUntil : (ℕ → Option Gift) → ℕ → Option Gift → Type 0
IsBestUntil gift count None = (k : ℕ) → k < count → gift k ≡ None
IsBestUntil gift count (Some best) = IsBestAt gift count best

pub best_none : (gift : ℕ → Option Gift) → IsBestUntil gift 0 None
best_none gift k lt = absurd (omega (arith, lt))

worse_all : (new old : Gift) (other : Option Gift) → is_better new old ≡ true →
    beats other (Some old) ≡ false → beats (Some new) other ≡ true
worse_all new old None better never = refl
worse_all new old (Some k) better never = worse new old k better never

no_better_all : (new old : Gift) (other : Option Gift) → is_better new old ≡ true →
    beats other (Some old) ≡ false → beats other (Some new) ≡ false
no_better_all new old None better never = refl
no_better_all new old (Some k) better never = no_better_after new k (worse new old k better never)

taken : (gift : ℕ → Option Gift) (n : ℕ) (old new : Gift) → gift n ≡ Some new → new.replica ≡ n →
    is_better new old ≡ true → IsBestAt gift n old → IsBestAt gift (n + 1) new
taken gift n old new is own better so_far = record {
  within = omega (arith, own);
  is = ap gift own ∙ is;
  none_better = below_more (λ k. beats (gift k) (Some new) ≡ false) n
      (λ k lt. no_better_all new old (gift k) better (so_far.none_better k lt))
      (ap (λ o. beats o (Some new)) is ∙ no_better_self new);
  first = λ k lt. worse_all new old (gift k) better (so_far.none_better k (omega (arith, lt, own)));
}

stays : (gift : ℕ → Option Gift) (n : ℕ) (old : Gift) (new : Option Gift) → gift n ≡ new →
    beats new (Some old) ≡ false → IsBestAt gift n old → IsBestAt gift (n + 1) old
stays gift n old new is never so_far = record {
  within = (let within = so_far.within in omega (arith, within));
  is = so_far.is;
  none_better = below_more (λ k. beats (gift k) (Some old) ≡ false) n so_far.none_better
      (ap (λ o. beats o (Some old)) is ∙ never);
  first = so_far.first;
}

pub best_more : (gift : ℕ → Option Gift) (n : ℕ) (best new next : Option Gift) → gift n ≡ new →
    ((g : Gift) → gift n ≡ Some g → g.replica ≡ n) → next ≡ cond (beats new best) new best →
    IsBestUntil gift n best → IsBestUntil gift (n + 1) next
best_more gift n None None next is own step so_far =
    subst (IsBestUntil gift (n + 1)) (sym step) (below_more (λ k. gift k ≡ None) n so_far is)
best_more gift n None (Some new) next is own step so_far =
    subst (IsBestUntil gift (n + 1)) (sym step) (let same = own new is in record {
      within = omega (arith, same);
      is = ap gift same ∙ is;
      none_better = below_more (λ k. beats (gift k) (Some new) ≡ false) n
          (λ k lt. ap (λ o. beats o (Some new)) (so_far k lt))
          (ap (λ o. beats o (Some new)) is ∙ no_better_self new);
      first = λ k lt. ap (beats (Some new)) (so_far k (omega (arith, lt, same)));
    })
best_more gift n (Some old) None next is own step so_far =
    subst (IsBestUntil gift (n + 1)) (sym step) (stays gift n old None is refl so_far)
best_more gift n (Some old) (Some new) next is own step so_far = ⊎_elim
    (λ better. subst (IsBestUntil gift (n + 1)) (sym (step ∙ ap (λ b. cond b (Some new) (Some old))
    better)) (taken gift n old new is (own new is) better so_far))
    (λ never. subst (IsBestUntil gift (n + 1)) (sym (step ∙ ap (λ b. cond b (Some new) (Some old)) never))
    (stays gift n old (Some new) is never so_far))
    (cases_Bool (is_better new old))

-- what holds of both holds of the better
pub better_some : (P : Gift → Type 0) (best new next : Option Gift) → next ≡ cond (beats new best) new
    best → IfSome best P → IfSome new P → IfSome next P
better_some P best new next step one other = subst (λ o. IfSome o P) (sym step)
    (either (beats new best))
  where
    either : (b : Bool) → IfSome (cond b new best) P
    either true = other
    either false = one

-- and there is none only where neither is
pub better_none : (Q : ℕ → Type 0) (n : ℕ) (best new next : Option Gift) →
    next ≡ cond (beats new best) new best → IfNone best ((k : ℕ) → k < n → Q k) → IfNone new (Q n)
    → IfNone next ((k : ℕ) → k < n + 1 → Q k)
better_none Q n None None next step below here =
    subst (λ o. IfNone o ((k : ℕ) → k < n + 1 → Q k)) (sym step) (below_more Q n below here)
better_none Q n None (Some new) next step below here =
    subst (λ o. IfNone o ((k : ℕ) → k < n + 1 → Q k)) (sym step) tt
better_none Q n (Some old) None next step below here =
    subst (λ o. IfNone o ((k : ℕ) → k < n + 1 → Q k)) (sym step) tt
better_none Q n (Some old) (Some new) next step below here =
    subst (λ o. IfNone o ((k : ℕ) → k < n + 1 → Q k)) (sym step) (either (is_better new old))
  where
    either : (b : Bool) → IfNone (cond b (Some new) (Some old)) ((k : ℕ) → k < n + 1 → Q k)
    either true = tt
    either false = tt

pub stay_all : (best : Option Gift) (Q : ℕ → Type 0) (n : ℕ) (R : Type 0) → IfNone best ((k : ℕ) →
    k < n → Q k) → (((k : ℕ) → k < n → Q k) → R) → IfNone best R
stay_all None Q n R below all = all below
stay_all (Some best) Q n R below all = tt

-- ---- the best of all

pub best_end : (gift : ℕ → Option Gift) (count : ℕ) (best : Option Gift) →
    IsBestUntil gift count best → option_map (λ (g : Gift). g.replica) best ≡ best_of gift count
best_end gift count None none = first_none (is_best gift count) count
    (λ k lt. and_left (is_some (gift k)) _ (ap is_some (none k lt)))
best_end gift count (Some best) is = first_is (is_best gift count) count best.replica is.within
    (λ k lt. and_right (is_some (gift k)) _ (ap not (some_below
    (λ other. beats (gift other) (gift k)) count best.replica is.within
    (ap (λ o. beats o (gift k)) is.is ∙ is.first k lt))))
    (ap (λ o. is_some o && not (list_any (λ other. beats (gift other) o) (range_with_len 0 count)))
    is.is
    ∙ ap not (list_any_none (λ other. beats (gift other) (Some best)) (range_with_len 0 count)
    (λ k d lt. let within : k < count = omega (arith, lt, length-range_with_len 0 count) in
    ap (λ n. beats (gift n) (Some best)) (get_or-range_with_len 0 count k d within ∙ zero_more k)
    ∙ is.none_better k within)))
  where
    zero_more : (k : ℕ) → 0 + k ≡ k
    zero_more k = omega arith

-- ---- the seats of a partition

own_to : (kept : Load) (replica id : ℕ) (way : Option (ℕ × ℕ × ℕ)) (gift : Gift) →
    gift_to kept replica id way ≡ Some gift → gift.replica ≡ replica
own_to kept replica id None gift is = absurd (cc is)
own_to kept replica id (Some to) gift is = sym (ap (λ (g : Gift). g.replica) (same_Some _ gift is))

own_by : (pass : Pass) (was kept : Load) (row : List (Option ℕ)) (replica : ℕ) (seat : Option ℕ)
    (gift : Gift) → gift_by pass was kept row replica seat ≡ Some gift → gift.replica ≡ replica
own_by pass was kept row replica None gift is = absurd (cc is)
own_by pass was kept row replica (Some id) gift is = own_to kept replica id _ gift is

-- a seat is of its own replica
pub own_replica : (pass : Pass) (was kept : Load) (row : List (Option ℕ)) (replica : ℕ)
    (gift : Gift) → gift_of pass was kept row replica ≡ Some gift → gift.replica ≡ replica
own_replica pass was kept row replica gift is = own_by pass was kept row replica _ gift is

calm_by : (was kept : Load) (row : List (Option ℕ)) (replica : ℕ) (seat : Option ℕ) →
    ((id : ℕ) → seat ≡ Some id → (is_drained_in was row id ≡ false) ×
    (is_crowded_in was row replica id ≡ false))
    → gift_by First was kept row replica seat ≡ None
calm_by was kept row replica None calm = refl
calm_by was kept row replica (Some id) calm =
    ap (λ b. gift_to kept replica id (first_place b (is_crowded_in was row replica id)))
    (calm id refl).0
    ∙ ap (λ b. gift_to kept replica id (first_place false b)) (calm id refl).1

-- of a calm partition no seat is lifted
pub none_crowded : (was kept : Load) (row : List (Option ℕ)) → AreCalm was row →
    None ≡ best_seat First was kept row
none_crowded was kept row calm = best_end (gift_of First was kept row) (length row) None
    (λ k lt. calm_by was kept row k (get_or row k None)
    (λ id is. calm k id (seat_at row k (Some id) lt is)))
