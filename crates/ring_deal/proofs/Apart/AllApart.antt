-- All hands, dealt one after another, and no partition has more seats in a tier than the wants force
-- on it.
use Rattle.std.proofs.Common.{◌≡◌, ◌∙◌, ℕ, zero, suc, ◌+◌, ◌-◌, ◌*◌, ◌^◌, ◌<◌, ◌≤◌, Bool}
use Rattle.std.proofs.Common.{List, ◌++◌, ap, arith, cond, count_by, get_or, length, map, refl, subst, sum_by, sym, ⊎_elim}
use Rattle.std.specs.List.{range_with_len}
use Rattle.std.specs.List.Sorted.{IsPermutation}
use Rattle.std.specs.Prelude.{slice_index}
use Rattle.std.proofs.Math.Nat.{add-mul, mul_assoc}
use Rattle.std.proofs.lemmas.Bool.{cases_lt}
use Rattle.std.proofs.lemmas.List.{get_or-append_right, get_or-map, get_or_append_left}
use Rattle.std.proofs.lemmas.Nat.{mul-add-lt}
use Rattle.rand_pcg.specs.Lcg.{Lcg}
use Rattle.ring_words.specs.declared.device.Device.{Device}
use Rattle.ring_share.specs.Room.{place_of}
use Rattle.ring_share.specs.declared.tiers.Tier.{Tier}
use Rattle.ring_room.specs.Places.{id_at}
use Rattle.ring_room.specs.Steps.{after_steps}
use Rattle.ring_room.proofs.Searching.DevicesAt.{id_at_is, place_is}
use Rattle.ring_room.proofs.Steps.{steps_more, steps_none}
use Rattle.ring_deal.specs.Deal.{CanDeal, Dealing, StandApart, dealt_places, dealt_seats, hand_count}
use Rattle.ring_deal.specs.Deal.{hand_size, tier_want}
use Rattle.ring_deal.specs.Draws.{shuffled}
use Rattle.ring_deal.specs.Hand.{Taking, dealt_round, taken_of}
use Rattle.ring_deal.specs.Order.{share_tier}
use Rattle.ring_deal.specs.Inner.Going.{IsDealing}
use Rattle.ring_deal.proofs.AllDealt.{dealing_all, first, hands_have_all, next_taken, order_of, step}
use Rattle.ring_deal.proofs.Apart.DrawnRanks.{drawn_ranks}
use Rattle.ring_deal.proofs.Apart.Hands.{IsShared, hand_shares, left_with}
use Rattle.ring_deal.proofs.Apart.Runs.{round_shares, run_of}
use Rattle.ring_deal.proofs.Apart.TierOrder.{order_unbroken}
use Rattle.ring_deal.proofs.Ordered.{device_there, order_permutes}
use Rattle.ring_deal.proofs.Rounds.{round_at, sum_suc}

-- how many seats of a partition are on devices whose places pass a test
abbrev pub seats_with : (ℕ → Bool) → ℕ → List ℕ → ℕ → ℕ
seats_with test replicas places partition = count_by (λ replica. test (get_or places
    (partition * replicas + replica) 0)) (range_with_len 0 replicas)

-- what is the same for each number below one comes to the same
sum_alike : (f g : ℕ → ℕ) (n : ℕ) → ((k : ℕ) → k < n → f k ≡ g k) → sum_by f (range_with_len 0 n) ≡
    sum_by g (range_with_len 0 n)
sum_alike f g zero same = refl
sum_alike f g (suc n) same =
    let last = same n (omega arith) in
    omega (arith, sum_suc f n, sum_suc g n, last, sum_alike f g n (λ k lt. same k (omega (arith, lt))))

count_alike : (p q : ℕ → Bool) (n : ℕ) → ((k : ℕ) → k < n → p k ≡ q k) → count_by p
    (range_with_len 0 n) ≡ count_by q (range_with_len 0 n)
count_alike p q n same = sum_alike (λ k. cond (p k) 1 0) (λ k. cond (q k) 1 0) n
    (λ k lt. ap (λ b. cond b 1 0) (same k lt))

-- seats of whole partitions, and more behind them
seats_before : (test : ℕ → Bool) (replicas m : ℕ) (xs ys : List ℕ) (partition : ℕ) →
    length xs ≡ m * replicas → partition < m → seats_with test replicas (xs ++ ys) partition ≡
    seats_with test replicas xs partition
seats_before test replicas m xs ys partition long lt =
    count_alike (λ replica. test (get_or (xs ++ ys) (partition * replicas + replica) 0))
    (λ replica. test (get_or xs (partition * replicas + replica) 0)) replicas
    (λ replica below. let inside = mul-add-lt partition replicas replica m lt below in
    ap test (get_or_append_left xs ys 0 (partition * replicas + replica) (omega (arith, inside, long))))

seats_behind : (test : ℕ → Bool) (replicas m : ℕ) (xs ys : List ℕ) (partition : ℕ) →
    length xs ≡ m * replicas → m ≤ partition → seats_with test replicas (xs ++ ys) partition ≡
    seats_with test replicas ys (partition - m)
seats_behind test replicas m xs ys partition long over =
    count_alike (λ replica. test (get_or (xs ++ ys) (partition * replicas + replica) 0))
    (λ replica. test (get_or ys ((partition - m) * replicas + replica) 0)) replicas
    (λ replica below. let parts : partition * replicas ≡ m * replicas + (partition - m) * replicas =
    (let e : partition ≡ m + (partition - m) = omega (arith, over) in ap (λ (p : ℕ). p * replicas) e)
    ∙ add-mul m (partition - m) replicas in
    let at : partition * replicas + replica - m * replicas ≡ (partition - m) * replicas + replica =
    omega (arith, parts) in
    ap test (get_or-append_right xs ys (m * replicas) (partition * replicas + replica) 0 long
    (omega (arith, parts)) ∙ ap (λ k. get_or ys k 0) at))

-- the seats of a hand's partition
seats_of_round : (test : ℕ → Bool) (hand : List ℕ) (size replicas part : ℕ) → part < size →
    seats_with test replicas (dealt_round hand size replicas) part ≡ count_by (λ round. test
    (get_or hand (round * size + part) 0)) (range_with_len 0 replicas)
seats_of_round test hand size replicas part lt =
    count_alike (λ replica. test (get_or (dealt_round hand size replicas) (part * replicas + replica) 0))
    (λ round. test (get_or hand (round * size + part) 0)) replicas
    (λ round below. ap test (round_at hand size replicas part round lt below))

-- none has more than a share of what the hand took
round_few : (test : ℕ → Bool) (later size most count replicas part : ℕ) (taken : Taking) →
    length taken.hand ≡ replicas * size → IsShared test later size most count taken → part < size →
    seats_with test replicas (dealt_round taken.hand size replicas) part ≤ most
round_few test later size most count replicas part taken long shared lt =
    let few = round_shares (λ round. test (get_or taken.hand (round * size + part) 0)) size part
    shared.first most replicas lt (λ round below is.
    let inside = mul-add-lt round size part replicas below lt in
    shared.run (round * size + part) (omega (arith, inside, long)) is) in
    let same = seats_of_round test taken.hand size replicas part lt in
    omega (arith, few, same)

-- So many hands are dealt: no partition has more seats on devices that pass a test than so many, and
-- what these devices have left can be shared so by the hands to come.
record IsApart (test : ℕ → Bool) (count part replicas most n : ℕ) (now : Dealing) : Type 0 where
  rest : left_with test now.left count ≤ (hand_count part - n) * (hand_size part * most)
  few : (partition : ℕ) → partition < n * hand_size part → seats_with test replicas now.places
      partition ≤ most

module _ (devices : List Device) (wanted : List ℕ) (power replicas : ℕ)
    (can : CanDeal devices wanted power replicas) (tier : Tier) (place : ℕ)
    (here : place < length devices) (most : ℕ)
    (fits : tier_want tier devices wanted place ≤ 2 ^ power * most) where
  abbrev test : ℕ → Bool
  test = share_tier tier devices place

  abbrev size : ℕ
  size = hand_size power

  abbrev next : ℕ → Dealing → Dealing
  next = step devices wanted power replicas can

  abbrev begin : Lcg → Dealing
  begin = first devices wanted power replicas can

  abbrev order : Dealing → List ℕ
  order = order_of devices wanted power replicas can

  apart_start : (draws : Lcg) → IsApart test (length devices) power replicas most 0 (begin draws)
  apart_start draws =
      let whole : (hand_count power - 0) * (size * most) ≡ 2 ^ power * most =
      ap (λ k. k * (size * most)) (omega arith) ∙ sym (mul_assoc (hand_count power) size most)
      ∙ ap (λ k. k * most) (hands_have_all power) in
      record {
        rest = omega (arith, whole, fits);
        few = λ partition lt. absurd (let none : 0 * size ≡ 0 = omega arith in omega (arith, lt, none));
      }

  -- the next hand takes a share of what they have left
  next_shared : (n : ℕ) → n < hand_count power → (now : Dealing) → IsDealing devices wanted power
      replicas n now → IsApart test (length devices) power replicas most n now → IsShared test
      (hand_count power - (n + 1)) size most (length devices) (taken_of (hand_count power - n)
      (order now) now.left)
  next_shared n lt now before apart =
      let later = hand_count power - (n + 1) in
      let hands : hand_count power - n ≡ later + 1 = omega (arith, lt) in
      let ranks = (shuffled (range_with_len 0 (length devices)) now.draws).0 in
      let permutes = order_permutes devices ranks can.few in
      let run = run_of (λ k. test (get_or (order now) k 0)) (length (order now)) (order_unbroken devices
      ranks (drawn_ranks (length devices) now.draws can.few) can.few tier place here) in
      let left = before.left_over in
      let rest : left_with test now.left (length now.left) ≤ (later + 1) * (size * most) =
      subst (λ c. left_with test now.left c ≤ (later + 1) * (size * most)) (sym before.long)
      (subst (λ h. left_with test now.left (length devices) ≤ h * (size * most)) hands apart.rest) in
      subst (λ c. IsShared test later size most c (taken_of (hand_count power - n) (order now) now.left))
      before.long
      (subst (λ h. IsShared test later size most (length now.left) (taken_of h (order now) now.left))
      (sym hands) (hand_shares later size (order now) now.left
      (subst (λ k. IsPermutation (range_with_len 0 k) (order now)) (sym before.long) permutes)
      (λ k d below. subst (λ h. get_or now.left k d ≤ h * size) hands (left.each k d below))
      test run most rest))

  apart_more : (n : ℕ) → n < hand_count power → (now : Dealing) → IsDealing devices wanted power
      replicas n now → IsApart test (length devices) power replicas most n now → IsApart test
      (length devices) power replicas most (n + 1) (next n now)
  apart_more n lt now before apart =
      let shared = next_shared n lt now before apart in
      let taken = next_taken devices wanted power replicas can n lt now before in
      let taking = taken_of (hand_count power - n) (order now) now.left in
      let row = dealt_round taking.hand size replicas in
      record {
        rest = shared.rest;
        few = λ partition below. ⊎_elim
            (λ old. let same = seats_before test replicas (n * size) now.places row partition before.count
            old in let few = apart.few partition old in omega (arith, same, few))
            (λ new. let same = seats_behind test replicas (n * size) now.places row partition before.count
            new in
            let more : (n + 1) * size ≡ n * size + 1 * size = add-mul n 1 size in
            let one : 1 * size ≡ size = omega arith in
            let few = round_few test (hand_count power - (n + 1)) size most (length devices) replicas
            (partition - n * size) taking taken.count shared (omega (arith, below, more, one, new)) in
            omega (arith, same, few))
            (cases_lt partition (n * size));
      }

  apart_all : (draws : Lcg) (n : ℕ) → n ≤ hand_count power → IsApart test (length devices) power
      replicas most n (after_steps next n (begin draws))
  apart_all draws zero le = subst (IsApart test (length devices) power replicas most 0)
      (steps_none next (begin draws)) (apart_start draws)
  apart_all draws (suc n) le =
      let now = after_steps next n (begin draws) in
      let more = apart_more n (omega (arith, le)) now (dealing_all devices wanted power replicas can draws
      n (omega (arith, le))) (apart_all draws n (omega (arith, le))) in
      let is = steps_more next n (begin draws) now (next n now) refl refl in
      subst (λ k. IsApart test (length devices) power replicas most k (after_steps next k (begin draws)))
      (omega arith) (subst (IsApart test (length devices) power replicas most (n + 1)) is more)

  pub places_few : (draws : Lcg) (partition : ℕ) → partition < 2 ^ power → seats_with test replicas
      (dealt_places devices wanted power replicas draws) partition ≤ most
  places_few draws partition lt =
      (apart_all draws (hand_count power) (omega arith)).few partition
      (omega (arith, lt, hands_have_all power))

-- a device stands at the place of its number
place_of_id : (devices : List Device) (wanted : List ℕ) (power replicas : ℕ) →
    CanDeal devices wanted power replicas → (place : ℕ) → place < length devices →
    place_of (id_at devices place) devices ≡ place
place_of_id devices wanted power replicas can place lt =
    let there = device_there devices place lt in
    ap (λ id. place_of id devices) (id_at_is devices place there.0 there.1)
    ∙ place_is devices can.rise place there.0 there.1

-- the seats that are dealt stand apart
pub all_apart : (devices : List Device) (wanted : List ℕ) (power replicas : ℕ) →
    CanDeal devices wanted power replicas → (draws : Lcg) → StandApart devices wanted power replicas
    (dealt_seats devices wanted power replicas draws)
all_apart devices wanted power replicas can draws tier place partition most here lt fits =
    let places = dealt_places devices wanted power replicas draws in
    let d = dealing_all devices wanted power replicas can draws (hand_count power) (omega arith) in
    let long : length places ≡ 2 ^ power * replicas = d.count
    ∙ ap (λ k. k * replicas) (hands_have_all power) in
    let few = places_few devices wanted power replicas can tier place here most fits draws partition lt in
    let same = count_alike (λ replica. share_tier tier devices place (place_of (slice_index
    (map (id_at devices) places) (partition * replicas + replica)) devices))
    (λ replica. share_tier tier devices place (get_or places (partition * replicas + replica) 0))
    replicas (λ replica below.
    let inside = mul-add-lt partition replicas replica (2 ^ power) lt below in
    let within : partition * replicas + replica < length places = omega (arith, inside, long) in
    ap (share_tier tier devices place) (ap (λ id. place_of id devices) (get_or-map (id_at devices) places
    (partition * replicas + replica) 0 0 within)
    ∙ place_of_id devices wanted power replicas can (get_or places (partition * replicas + replica) 0)
    (d.within (partition * replicas + replica) 0 within))) in
    omega (arith, same, few)
