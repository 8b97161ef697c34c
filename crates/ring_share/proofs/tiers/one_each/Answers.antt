use Rattle.std.proofs.lemmas.Grind.{common_steps}
use Rattle.std.proofs.Common.{◌≡◌, ◌<◌, ◌+◌, ℕ, zero, suc, All, List, [], ◌∷◌, ◌++◌, ◌∙◌, Some}
use Rattle.std.proofs.Common.{true, get_or, length, set, take, subst, sym, ap, ⊎_elim, arith}
use Rattle.std.specs.Prelude.{slice_get}
use Rattle.std.specs.List.{list_any}
use Rattle.std.proofs.lemmas.Bool.{cases_lt}
use Rattle.std.proofs.lemmas.List.{length-set, take_more_set}
use Rattle.std.proofs.lemmas.List.Elements.{All-append}
use Rattle.ring_share.specs.Crowd.{pass_both}
use Rattle.ring_share.specs.Near.{is_open_at}
use Rattle.ring_share.specs.Want.{is_open}
use Rattle.ring_share.specs.Tiers.{shares}
use Rattle.ring_share.proofs.TierLists.{last_any, more_any, open_there, shared_read, shares_self}
use Rattle.ring_share.proofs.tiers.one_each.Goals as goal

one : (P : ℕ → Type 0) (i : ℕ) → P i → All P (i ∷ [])
one P i holds zero d few = holds
one P i holds (suc k) d few = absurd (omega (arith, few))

pub loop-place-preserved : goal.loop-place-preserved
loop-place-preserved c =
    let devices = c.args.devices.now in
    let tier = c.args.tier in
    let places = c.loop-place.places in
    let count = c.loop-place.count in
    let items : List ℕ = take count places in
    let i = c.loop-place.place in
    let inv = c.loop-place.invariant in
    let lt : i < length devices = c.loop-place-test.true in
    let room : count < length places = (let few = inv.few in let long = inv.long in let most =
    c.requires in omega (arith, few, long, most, lt)) in
    let added : take (count + 1) (set places count i) ≡ items ++ i ∷ [] =
    take_more_set places count i room in
    let opens : is_open (get_or devices i c.index-devices-place.result) ≡ true =
    ap is_open (sym c.index-devices-place.is) ∙ sym c.is_open.ensures ∙ c.if-not-is_open.false
    in
    record {
      within = subst (λ xs. All (λ place. place < length devices) xs) (sym added)
          (All-append (λ place. place < length devices) items (i ∷ []) inv.within
          (one (λ place. place < length devices) i lt));
      opens = subst (λ xs. All (λ place. is_open_at devices place ≡ true) xs) (sym added)
          (All-append (λ place. is_open_at devices place ≡ true) items (i ∷ []) inv.opens
          (one (λ place. is_open_at devices place ≡ true) i
          (open_there devices i c.index-devices-place.result lt opens)));
      covered = λ k d below is.
          let device = get_or devices k d in
          subst (λ xs. list_any (λ place. pass_both (shares tier) (slice_get devices place)
          (Some device)) xs ≡ true) (sym added) (⊎_elim
          (λ before. more_any (λ place. pass_both (shares tier) (slice_get devices place)
          (Some device)) items i (inv.covered k d before is))
          (λ here. let same : i ≡ k = omega (arith, here, below) in
          let own : pass_both (shares tier) (slice_get devices i) (Some (get_or devices i d)) ≡ true
          = shared_read tier devices i d (get_or devices i d) lt ∙ shares_self tier
          (get_or devices i d) in
          last_any (λ place. pass_both (shares tier) (slice_get devices place) (Some device)) items
          i (subst (λ j. pass_both (shares tier) (slice_get devices i)
          (Some (get_or devices j d)) ≡ true) same own))
          (cases_lt k i));
      few = (let few = inv.few in omega (arith, few));
      long = length-set places count i ∙ inv.long;
    }

pub loop-place-preserved-then-not-is_open : goal.loop-place-preserved-then-not-is_open
loop-place-preserved-then-not-is_open c = grind (arith, common_steps)
