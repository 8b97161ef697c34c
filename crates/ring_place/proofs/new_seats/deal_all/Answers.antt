use Rattle.std.proofs.Common.{◌≡◌, ◌∙◌, ◌^◌, ℕ, false, true, ap, length, subst, sym}
use Rattle.std.proofs.lemmas.Bool.{eqb-true}
use Rattle.std.proofs.lemmas.List.{nil_from_length}
use Rattle.ring_deal.specs.Deal.{AreDealt}
use Rattle.ring_place.specs.Inner.Finishing.{AreRebalanced}
use Rattle.ring_place.proofs.Finishing.DealtSeats.{can_deal, dealt_rebalanced, not_once, once_by, same_can}
use Rattle.ring_place.proofs.Finishing.DealtSeats.{same_dealt, same_seats}
use Rattle.ring_place.proofs.new_seats.deal_all.Goals as goal

pub returns-then-not-want_once-clause-not_dealt : goal.returns-then-not-want_once-clause-not_dealt
returns-then-not-want_once-clause-not_dealt c = not_once c.args.ring.now c.in_ok-wanted.wanted.items
    c.in_ok-wanted.ensures (once_by c.args.ring.now c.as_slice.result.now c.in_ok-wanted.wanted.items
    c.partition_count.result c.want_once.result false c.as_slice.ensures.value
    (c.partition_count.ensures.value ∙ ap (λ (n : ℕ). 2 ^ n) c.power.ensures.value) c.want_once.ensures
    c.if-not-want_once.true)

pub deal-requires : goal.deal-requires
deal-requires c =
    let ring = c.args.ring.now in
    let once = once_by ring c.as_slice.result.now c.in_ok-wanted.wanted.items
    c.partition_count.result c.want_once.result true c.as_slice.ensures.value
    (c.partition_count.ensures.value ∙ ap (λ (n : ℕ). 2 ^ n) c.power.ensures.value) c.want_once.ensures
    c.if-not-want_once.false in
    let can = can_deal ring c.power.ensures.valid c.in_ok-wanted.wanted.items c.in_ok-wanted.ensures once
    c.requires in
    record {
      can = same_can _ _ _ _ _ _ _ _ (sym c.devices.ensures.value) (sym c.as_slice-2.ensures.value)
          (sym c.power-power.ensures.value) (sym c.replicas-replicas.ensures.value) can;
    }

pub returns-clause-dealt : goal.returns-clause-dealt
returns-clause-dealt c hour =
    let ring = c.args.ring.now in
    let wanted = c.in_ok-wanted.wanted.items in
    let once = once_by ring c.as_slice.result.now wanted c.partition_count.result c.want_once.result true
    c.as_slice.ensures.value
    (c.partition_count.ensures.value ∙ ap (λ (n : ℕ). 2 ^ n) c.power.ensures.value) c.want_once.ensures
    c.if-not-want_once.false in
    let none : length c.seats.result.now ≡ 0 = eqb-true (length c.seats.result.now) 0 (sym c.is_empty.ensures
    ∙ c.if-not-is_empty.false) in
    let empty = nil_from_length ring.seats (ap length (sym c.seats.ensures.value) ∙ none) in
    let dealt = same_dealt _ ring.devices _ wanted _ ring.power _ ring.replicas c.as_slice-3.result.now
    c.devices.ensures.value c.as_slice-2.ensures.value c.power-power.ensures.value
    c.replicas-replicas.ensures.value (subst (AreDealt c.devices.result.now c.as_slice-2.result.now
    c.power-power.result c.replicas-replicas.result) (sym c.as_slice-3.ensures.value) c.in_ok-seats.ensures.dealt) in
    let named = same_seats c.devices.result.now ring.devices c.as_slice-2.result.now wanted
    c.power-power.result ring.power c.replicas-replicas.result ring.replicas c.draws_of.result c.args.seed
    c.as_slice-3.result.now c.devices.ensures.value c.as_slice-2.ensures.value c.power-power.ensures.value
    c.replicas-replicas.ensures.value c.draws_of.ensures
    (c.as_slice-3.ensures.value ∙ c.in_ok-seats.ensures.by_name) in
    subst (AreRebalanced ring hour c.args.seed) (sym c.in_ok-with.ensures.rows)
    (dealt_rebalanced ring c.power.ensures.valid wanted c.in_ok-wanted.ensures once empty
    c.as_slice-3.result.now c.args.seed dealt named hour)
