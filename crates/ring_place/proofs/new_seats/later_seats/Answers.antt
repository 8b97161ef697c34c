use Rattle.std.proofs.Common.{◌∙◌, IfOk, Ok, Err, Result, subst, sym}
use Rattle.ring_share.specs.Want.{AreWanted}
use Rattle.ring_place.specs.Inner.Finishing.{AreRebalanced}
use Rattle.ring_place.specs.Inner.Gathering.{IsRoomOf}
use Rattle.ring_place.proofs.Finishing.SettledRing.{settled_rebalanced}
use Rattle.ring_place.proofs.new_seats.later_seats.Goals as goal

if_ok_one : {T E : Type 0} (r : Result T E) (P S : T → Type 0) → IfOk r P → ((x : T) → P x → S x) → IfOk r S
if_ok_one (Ok x) P S p all = all x p
if_ok_one (Err e) P S p all = tt

pub returns-then-is_settled : goal.returns-then-is_settled
returns-then-is_settled c =
    let ring = c.args.ring.now in
    let was = c.in_ok-was.was' in
    let is : IsRoomOf ring was = record {
      devices = c.in_ok-was.ensures.devices;
      wanted = subst (AreWanted ring) (sym (c.in_ok-was.ensures.wants ∙ c.as_slice.ensures.value))
          c.in_ok-wanted.ensures;
      counts = c.in_ok-was.ensures.counts;
      load = c.in_ok-was.ensures.load;
    } in
    let yes = c.if-is_settled.true in
    let stay = settled_rebalanced ring was c.is_settled.ensures.valid is
    (c.is_settled.ensures.assigned yes) (c.is_settled.ensures.remain yes) (c.is_settled.ensures.full yes)
    c.requires.not_dealt (sym c.is_settled.ensures.by_name ∙ yes) c.args.hour c.args.seed in
    if_ok_one c.copy.result _ (AreRebalanced ring c.args.hour c.args.seed) c.copy.ensures
    (λ rows same. subst (AreRebalanced ring c.args.hour c.args.seed) (sym (same ∙ c.requires.old)) stay)
