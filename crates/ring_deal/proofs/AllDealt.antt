-- All hands, dealt one after another.
use Rattle.std.proofs.Common.{◌≡◌, ◌==◌, ℕ, zero, suc, ◌+◌, ◌-◌, ◌*◌, ◌^◌, ◌<◌, ◌≤◌, cond, min}
use Rattle.std.proofs.Common.{All, List, [], length, get_or}
use Rattle.std.proofs.Common.{refl, sym, ap, subst, ◌∙◌, arith, pow-add}
use Rattle.std.specs.List.{range_with_len}
use Rattle.std.specs.List.Sorted.{IsPermutation}
use Rattle.std.proofs.lemmas.List.{length-append, length-map}
use Rattle.std.proofs.lemmas.List.Elements.{All-append}
use Rattle.std.proofs.lemmas.List.Sums.{sum_by-append}
use Rattle.std.proofs.lemmas.Option.{slice_get_within}
use Rattle.rand_pcg.specs.Lcg.{Lcg}
use Rattle.ring_words.specs.declared.device.Device.{Device}
use Rattle.ring_room.specs.Places.{id_at}
use Rattle.ring_room.specs.Steps.{after_steps}
use Rattle.ring_room.proofs.Steps.{steps_more, steps_none}
use Rattle.ring_deal.specs.Deal.{AreDealt, CanDeal, Dealing, deal_at, dealt_places, dealt_seats}
use Rattle.ring_deal.specs.Deal.{hand_count, hand_power, hand_size}
use Rattle.ring_deal.specs.Draws.{shuffled}
use Rattle.ring_deal.specs.Hand.{dealt_round, taken_of}
use Rattle.ring_deal.specs.Order.{tier_order}
use Rattle.ring_deal.specs.Inner.Going.{IsDealing, IsTaken}
use Rattle.ring_deal.proofs.Ordered.{order_permutes}
use Rattle.ring_deal.proofs.Rounds.{distinct_append, ids_count, ids_distinct, ids_known}
use Rattle.ring_deal.proofs.Rounds.{round_count, round_distinct, round_keeps, round_within}
use Rattle.ring_deal.proofs.Taken.{hand_taken}

-- the hands have all partitions
pub hands_have_all : (power : ℕ) → hand_count power * hand_size power ≡ 2 ^ power
hands_have_all power =
    let parts : min power hand_power + (power - hand_power) ≡ power = omega arith in
    sym (pow-add 2 (min power hand_power) (power - hand_power)) ∙ ap (λ n. 2 ^ n) parts

-- ---- one hand

module _ (devices : List Device) (wanted : List ℕ) (power replicas : ℕ)
    (can : CanDeal devices wanted power replicas) where
  abbrev pub step : ℕ → Dealing → Dealing
  step = deal_at devices (hand_size power) replicas (hand_count power)

  abbrev pub first : Lcg → Dealing
  first draws = record { places = []; left = wanted; draws = draws }

  dealing_start : (draws : Lcg) → IsDealing devices wanted power replicas 0 (first draws)
  dealing_start draws =
      let whole : (hand_count power - 0) * hand_size power ≡ 2 ^ power = ap (λ k. k * hand_size power)
      (omega arith) ∙ hands_have_all power in
      record {
        long = can.each;
        left_over = record {
          each = λ k d lt. subst (λ n. get_or wanted k d ≤ n) (sym whole) (can.once k d lt);
          all = can.all ∙ ap (λ k. k * replicas) (sym whole);
        };
        count = omega arith;
        within = λ k d lt. absurd (omega (arith, lt));
        distinct = λ partition one other id below also at bt. absurd (cc at);
        kept = λ place. omega arith;
      }

  -- the order of the next hand
  abbrev pub order_of : Dealing → List ℕ
  order_of now = tier_order devices (shuffled (range_with_len 0 (length devices)) now.draws).0

  -- what the next hand takes
  pub next_taken : (n : ℕ) → n < hand_count power → (now : Dealing) →
      IsDealing devices wanted power replicas n now →
      IsTaken (hand_count power - (n + 1)) (hand_size power) replicas now.left
      (taken_of (hand_count power - n) (order_of now) now.left)
  next_taken n lt now before =
      let later = hand_count power - (n + 1) in
      let hands : hand_count power - n ≡ later + 1 = omega (arith, lt) in
      let permutes = order_permutes devices (shuffled (range_with_len 0 (length devices)) now.draws).0
      can.few in
      let left = before.left_over in
      subst (λ h. IsTaken later (hand_size power) replicas now.left (taken_of h (order_of now) now.left))
      (sym hands) (hand_taken later (hand_size power) (order_of now) now.left
      (subst (λ k. IsPermutation (range_with_len 0 k) (order_of now)) (sym before.long) permutes)
      (λ k d below. subst (λ h. get_or now.left k d ≤ h * hand_size power) hands (left.each k d below))
      replicas (left.all ∙ ap (λ h. h * hand_size power * replicas) hands))

  dealing_more : (n : ℕ) → n < hand_count power → (now : Dealing) →
      IsDealing devices wanted power replicas n now →
      IsDealing devices wanted power replicas (n + 1) (step n now)
  dealing_more n lt now before =
      let taken = next_taken n lt now before in
      let taking = taken_of (hand_count power - n) (order_of now) now.left in
      let row = dealt_round taking.hand (hand_size power) replicas in
      let long = before.long in
      let within : All (λ place. place < length devices) taking.hand = λ k d below.
      (let here = taken.within k d below in omega (arith, here, long)) in
      record {
        long = taken.long ∙ before.long;
        left_over = taken.left_over;
        count = length-append now.places row ∙ ap (λ k. k + length row) before.count
            ∙ ap (λ k. n * hand_size power * replicas + k) (round_count taking.hand (hand_size power) replicas)
            ∙ omega arith;
        within = All-append (λ place. place < length devices) now.places row before.within
            (round_within (length devices) taking.hand (hand_size power) replicas taken.count within);
        distinct = distinct_append replicas (n * hand_size power) now.places row before.count
            before.distinct (round_distinct taking.hand (hand_size power) replicas taken.count taken.spread);
        kept = λ place.
            let both = sum_by-append (λ (x : ℕ). cond (x == place) 1 0) now.places row in
            let here = round_keeps place taking.hand (hand_size power) replicas taken.count in
            let kept = taken.kept place in
            let old = before.kept place in
            omega (arith, both, here, kept, old);
      }

  -- so many hands
  pub dealing_all : (draws : Lcg) (n : ℕ) → n ≤ hand_count power → IsDealing devices wanted power replicas n
      (after_steps step n (first draws))
  dealing_all draws zero le = subst (IsDealing devices wanted power replicas 0)
      (steps_none step (first draws)) (dealing_start draws)
  dealing_all draws (suc n) le =
      let now = after_steps step n (first draws) in
      let more = dealing_more n (omega (arith, le)) now (dealing_all draws n (omega (arith, le))) in
      let next = steps_more step n (first draws) now (step n now) refl refl in
      subst (λ k. IsDealing devices wanted power replicas k (after_steps step k (first draws)))
      (omega arith) (subst (IsDealing devices wanted power replicas (n + 1)) next more)

  -- all seats are dealt
  pub all_dealt : (draws : Lcg) → AreDealt devices wanted power replicas
      (dealt_seats devices wanted power replicas draws)
  all_dealt draws =
      let d = dealing_all draws (hand_count power) (omega arith) in
      let places = dealt_places devices wanted power replicas draws in
      record {
        count = length-map places (id_at devices) ∙ d.count
            ∙ ap (λ k. k * replicas) (hands_have_all power);
        known = ids_known devices places d.within;
        distinct = ids_distinct replicas devices places can.rise d.distinct d.within;
        as_wanted = λ place device at.
            let kept = d.kept place in
            let within = slice_get_within devices place device at in
            let none = d.left_over.each place 0 (let long = d.long in omega (arith, long, within)) in
            let over : hand_count power - hand_count power ≡ 0 = omega arith in
            let zero : (hand_count power - hand_count power) * hand_size power ≡ 0 =
            ap (λ k. k * hand_size power) over ∙ omega arith in
            let count = ids_count devices places place device can.rise at d.within in
            omega (arith, kept, none, zero, count);
      }

-- so many hands of what a dealer begins with
pub dealing_here : (devices : List Device) (power replicas : ℕ) (dealer : Dealing)
    (can : CanDeal devices dealer.left power replicas) → dealer.places ≡ [] → (n : ℕ) (now : Dealing) →
    n ≤ hand_count power →
    now ≡ after_steps (deal_at devices (hand_size power) replicas (hand_count power)) n dealer →
    IsDealing devices dealer.left power replicas n now
dealing_here devices power replicas dealer can none n now le is =
    let begins : ◌≡◌ {A = Dealing} dealer (record { places = []; left = dealer.left; draws = dealer.draws }) =
    ap (λ (p : List ℕ). record { places = p; left = dealer.left; draws = dealer.draws }) none in
    subst (IsDealing devices dealer.left power replicas n) (sym (is ∙ ap (after_steps
    (deal_at devices (hand_size power) replicas (hand_count power)) n) begins))
    (dealing_all devices dealer.left power replicas can dealer.draws n le)
