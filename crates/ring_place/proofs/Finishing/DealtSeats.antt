-- When all seats of a ring are dealt at once, and that they are those of a rebalance.
use Rattle.std.proofs.Common.{◌≡◌, ℕ, ◌≤◌, Bool, true, false, not, ◌&&◌, ◌||◌, List, [], ◌∷◌}
use Rattle.std.proofs.Common.{length, get_or, count_by, cond, refl, sym, ap, subst, ◌∙◌, inl, inr, arith, nat_le}
use Rattle.std.specs.Prelude.{nat_lt}
use Rattle.std.specs.List.{list_all, list_any}
use Rattle.std.proofs.lemmas.Bool.{cases_Bool}
use Rattle.std.proofs.lemmas.Bool.Decides.{nat_tests}
use Rattle.std.proofs.lemmas.List.Sums.{AllPass-from_list_all, sum_by-cons}
use Rattle.rand_pcg.specs.Lcg.{Lcg}
use Rattle.ring_words.specs.declared.device.Device.{Device}
use Rattle.ring_model.specs.Ring.{RingRecord, is_assigned, partition_count}
use Rattle.ring_model.specs.Valid.{IsValid}
use Rattle.ring_share.specs.Crowd.{rows_of}
use Rattle.ring_share.specs.Want.{AreWanted, is_open}
use Rattle.ring_share.proofs.Determined.{same_wants}
use Rattle.ring_deal.specs.Deal.{AreDealt, CanDeal, dealt_seats}
use Rattle.ring_deal.specs.Draws.{draws_of}
use Rattle.ring_place.specs.Inner.Finishing.{AreRebalanced, IsNotDealt}
use Rattle.ring_place.proofs.Finishing.DealtRing.{is_dealt_rebalance_apart, whole}
use Rattle.ring_place.proofs.Seeded.{rebalanced_dealt}

and_no : (b : Bool) → (b && false) ≡ false
and_no true = refl
and_no false = refl

-- a ring a device of which wants two seats of a partition isn't dealt
pub not_once : (ring : RingRecord) (wanted : List ℕ) → AreWanted ring wanted →
    list_all (λ want. nat_le want (partition_count ring)) wanted ≡ false → IsNotDealt ring
not_once ring wanted are twice also others =
    ap (λ w. not (is_assigned ring) && list_all (λ want. nat_le want (partition_count ring)) w)
    (same_wants ring also wanted others are)
    ∙ ap (λ b. not (is_assigned ring) && b) twice ∙ and_no (not (is_assigned ring))

or_no : (a b : Bool) → (a || b) ≡ false → (a ≡ false) × (b ≡ false)
or_no true b is = absurd (cc is)
or_no false b is = (refl, is)

counted_any : (devices : List Device) → list_any is_open devices ≡ false → count_by is_open devices ≡ 0
counted_any [] none = refl
counted_any (device ∷ devices) none =
    let both = or_no (is_open device) (list_any is_open devices) none in
    let one = sum_by-cons (λ (d : Device). cond (is_open d) 1 0) device devices in
    let here : ◌≡◌ {A = ℕ} (cond (is_open device) 1 0) 0 = ap (λ b. cond b 1 0) both.0 in
    let rest = counted_any devices both.1 in
    omega (arith, one, here, rest)

-- whether devices want at most one, as it is told
pub once_by : (ring : RingRecord) (read wanted : List ℕ) (partitions : ℕ) (told is : Bool) → read ≡ wanted →
    partitions ≡ partition_count ring → told ≡ list_all (λ want. nat_le want partitions) read → told ≡ is →
    list_all (λ want. nat_le want (partition_count ring)) wanted ≡ is
once_by ring read wanted partitions told is same count tells was =
    sym (tells ∙ ap (λ (n : ℕ). list_all (λ want. nat_le want n) read) count
    ∙ ap (list_all (λ want. nat_le want (partition_count ring))) same) ∙ was

-- the same devices, wants, power and replicas
pub same_can : (devices same : List Device) (wanted also : List ℕ) (power one replicas other : ℕ) →
    devices ≡ same → wanted ≡ also → power ≡ one → replicas ≡ other →
    CanDeal devices wanted power replicas → CanDeal same also one other
same_can devices same wanted also power one replicas other d w p r can =
    subst (λ x. CanDeal same also one x) r (subst (λ x. CanDeal same also x replicas) p
    (subst (λ x. CanDeal same x power replicas) w (subst (λ x. CanDeal x wanted power replicas) d can)))

pub same_dealt : (devices same : List Device) (wanted also : List ℕ) (power one replicas other : ℕ)
    (seats : List ℕ) → devices ≡ same → wanted ≡ also → power ≡ one → replicas ≡ other →
    AreDealt devices wanted power replicas seats → AreDealt same also one other seats
same_dealt devices same wanted also power one replicas other seats d w p r are =
    subst (λ x. AreDealt same also one x seats) r (subst (λ x. AreDealt same also x replicas seats) p
    (subst (λ x. AreDealt same x power replicas seats) w (subst (λ x. AreDealt x wanted power replicas seats) d
    are)))

pub same_seats : (devices same : List Device) (wanted also : List ℕ) (power one replicas other : ℕ)
    (draws : Lcg) (seed : ℕ) (seats : List ℕ) → devices ≡ same → wanted ≡ also → power ≡ one →
    replicas ≡ other → draws ≡ draws_of seed → seats ≡ dealt_seats devices wanted power replicas draws →
    seats ≡ dealt_seats same also one other (draws_of seed)
same_seats devices same wanted also power one replicas other draws seed seats d w p r of is =
    is ∙ ap (λ x. dealt_seats x wanted power replicas draws) d
    ∙ ap (λ x. dealt_seats same x power replicas draws) w
    ∙ ap (λ x. dealt_seats same also x replicas draws) p
    ∙ ap (λ x. dealt_seats same also one x draws) r
    ∙ ap (dealt_seats same also one other) of

module _ (ring : RingRecord) (valid : IsValid ring) (wanted : List ℕ) (are : AreWanted ring wanted)
    (once : list_all (λ want. nat_le want (partition_count ring)) wanted ≡ true) where
  pub can_deal : ring.replicas ≤ count_by is_open ring.devices →
      CanDeal ring.devices wanted ring.power ring.replicas
  can_deal many = record {
    within = (valid.power.1, valid.replicas.1);
    few = valid.devices.count;
    rise = valid.devices.rise;
    each = are.shares.count;
    all = are.total (elim (cases_Bool (list_any is_open ring.devices)) [
      | inl some ↦ some
      | inr none ↦ (let zero = counted_any ring.devices none in let least = valid.replicas.0 in
          absurd (omega (arith, zero, least, many)))
    ]);
    once = λ k d lt. below (get_or wanted k d) (partition_count ring)
        (AllPass-from_list_all (λ want. nat_le want (partition_count ring)) wanted once k d lt);
  }
    where
      below : (n m : ℕ) → nat_le n m ≡ true → n ≤ m
      below n m h = grind (arith, nat_tests)

  pub dealt_rebalanced : ring.seats ≡ [] → (ss : List ℕ) (seed : ℕ) →
      AreDealt ring.devices wanted ring.power ring.replicas ss →
      ss ≡ dealt_seats ring.devices wanted ring.power ring.replicas (draws_of seed) → (hour : ℕ) →
      AreRebalanced ring hour seed (rows_of (record ring { seats = ss }))
  dealt_rebalanced empty ss seed dealt by_name hour = record {
    are_whole = whole ring valid wanted ss are empty dealt;
    apart = λ next valid_next rows after. is_dealt_rebalance_apart ring valid wanted ss are empty dealt
        next hour valid_next rows after;
    wanted = wanted;
    are = are;
    by_name = ap (λ s. rows_of (record ring { seats = s })) by_name
        ∙ rebalanced_dealt ring wanted hour seed (ap (λ (s : List ℕ). not (nat_lt 0 (length s)) &&
        list_all (λ want. nat_le want (partition_count ring)) wanted) empty ∙ once);
  }
