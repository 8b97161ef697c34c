use Rattle.std.proofs.Common.{◌≡◌, ◌∙◌, ◌<◌, ℕ, [], List, IfOk, Ok, Err, Result, All, ap, arith, length, map, subst, sym}
use Rattle.rand_pcg.specs.Lcg.{Lcg}
use Rattle.ring_words.specs.declared.device.Device.{Device}
use Rattle.ring_room.specs.Places.{id_at}
use Rattle.ring_room.specs.Steps.{after_steps}
use Rattle.ring_deal.specs.Deal.{AreDealt, Dealing, StandApart, deal_at, dealt_places, hand_count, hand_size}
use Rattle.ring_deal.proofs.AllDealt.{all_dealt, dealing_all}
use Rattle.ring_deal.proofs.Apart.AllApart.{all_apart}
use Rattle.ring_deal.proofs.dealer.deal.Goals as goal

-- what is dealt, from what a dealer begins with
same_places : (devices : List Device) (wanted : List ℕ) (power replicas read : ℕ) (draws : Lcg)
    (now places left : List ℕ) (dealer after : Dealing) → now ≡ dealer.places → dealer ≡ after
    → after ≡ after_steps (deal_at devices (hand_size power) read (hand_count power)) (hand_count power)
    (record { places = places; left = left; draws = draws })
    → read ≡ replicas → places ≡ [] → left ≡ wanted
    → now ≡ dealt_places devices wanted power replicas draws
same_places devices wanted power replicas read draws now places left dealer after is inside made reads
    none begins =
    let all = λ (r : ℕ) (p l : List ℕ). (after_steps (deal_at devices (hand_size power) r
    (hand_count power)) (hand_count power) (record { places = p; left = l; draws = draws })).places in
    is ∙ ap (λ (d : Dealing). d.places) (inside ∙ made) ∙ ap (λ r. all r places left) reads
    ∙ ap (λ p. all replicas p left) none ∙ ap (all replicas []) begins

pub numbers_of-requires : goal.numbers_of-requires
numbers_of-requires c =
    let same = same_places c.args.devices.now c.args.wanted.now c.args.power c.args.replicas c.from.result
    c.args.draws c.as_slice.result.now _ _ _ _ c.as_slice.ensures.value c.dealer.view_is
    c.in_ok-deal_hands.ensures (let read = c.get.ensures.value in let here = c.from.ensures in omega (arith, read, here))
    c.new.ensures.items c.in_ok-from_slice.ensures.items in
    subst (All (λ place. place < length c.args.devices.now)) (sym same)
    ((dealing_all c.args.devices.now c.args.wanted.now c.args.power c.args.replicas c.requires.can
    c.args.draws (hand_count c.args.power) (omega arith)).within)

if_ok_one : {T E : Type 0} (r : Result T E) (P S : T → Type 0) → IfOk r P → ((x : T) → P x → S x) → IfOk r S
if_ok_one (Ok x) P S p all = all x p
if_ok_one (Err e) P S p all = tt

pub returns-clause-dealt : goal.returns-clause-dealt
returns-clause-dealt c =
    let same = same_places c.args.devices.now c.args.wanted.now c.args.power c.args.replicas c.from.result
    c.args.draws c.as_slice.result.now _ _ _ _ c.as_slice.ensures.value c.dealer.view_is
    c.in_ok-deal_hands.ensures (let read = c.get.ensures.value in let here = c.from.ensures in omega (arith, read, here))
    c.new.ensures.items c.in_ok-from_slice.ensures.items in
    if_ok_one c.numbers_of.result _ _ c.numbers_of.ensures
    (λ ids is. subst (AreDealt c.args.devices.now c.args.wanted.now c.args.power c.args.replicas)
    (sym (is ∙ ap (map (id_at c.args.devices.now)) same))
    (all_dealt c.args.devices.now c.args.wanted.now c.args.power c.args.replicas c.requires.can c.args.draws))

pub returns-clause-by_name : goal.returns-clause-by_name
returns-clause-by_name c =
    let same = same_places c.args.devices.now c.args.wanted.now c.args.power c.args.replicas c.from.result
    c.args.draws c.as_slice.result.now _ _ _ _ c.as_slice.ensures.value c.dealer.view_is
    c.in_ok-deal_hands.ensures (let read = c.get.ensures.value in let here = c.from.ensures in omega (arith, read, here))
    c.new.ensures.items c.in_ok-from_slice.ensures.items in
    if_ok_one c.numbers_of.result _ _ c.numbers_of.ensures
    (λ ids is. is ∙ ap (map (id_at c.args.devices.now)) same)

pub returns-clause-apart : goal.returns-clause-apart
returns-clause-apart c =
    let same = same_places c.args.devices.now c.args.wanted.now c.args.power c.args.replicas c.from.result
    c.args.draws c.as_slice.result.now _ _ _ _ c.as_slice.ensures.value c.dealer.view_is
    c.in_ok-deal_hands.ensures (let read = c.get.ensures.value in let here = c.from.ensures in omega (arith, read, here))
    c.new.ensures.items c.in_ok-from_slice.ensures.items in
    if_ok_one c.numbers_of.result _ _ c.numbers_of.ensures
    (λ ids is. subst (StandApart c.args.devices.now c.args.wanted.now c.args.power c.args.replicas)
    (sym (is ∙ ap (map (id_at c.args.devices.now)) same))
    (all_apart c.args.devices.now c.args.wanted.now c.args.power c.args.replicas c.requires.can c.args.draws))
