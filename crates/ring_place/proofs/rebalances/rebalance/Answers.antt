use Rattle.std.proofs.Common.{◌∙◌, IfOk, Ok, Err, Result, ap, arith, count_by}
use Rattle.ring_share.specs.Want.{is_open}
use Rattle.ring_place.specs.Seeded.{finished}
use Rattle.ring_place.proofs.Finishing.FirstApart.{first_apart}
use Rattle.ring_place.proofs.rebalances.rebalance.Goals as goal

if_ok_three : {T E : Type 0} (r : Result T E) (P Q R S : T → Type 0) → IfOk r P → IfOk r Q → IfOk r R →
    ((x : T) → P x → Q x → R x → S x) → IfOk r S
if_ok_three (Ok x) P Q R S p q r all = all x p q r
if_ok_three (Err e) P Q R S p q r all = tt

if_ok_one : {T E : Type 0} (r : Result T E) (P S : T → Type 0) → IfOk r P → ((x : T) → P x → S x) → IfOk r S
if_ok_one (Ok x) P S p all = all x p
if_ok_one (Err e) P S p all = tt

pub returns-clause-rebalance : goal.returns-clause-rebalance
returns-clause-rebalance c = if_ok_three c.finish.result _ _ _ _ c.finish.ensures.rows c.finish.ensures.valid
    c.finish.ensures.after (λ done rows valid after. (c.in_ok-seats.ensures.apart done.ring valid rows after).is)

pub returns-clause-apart : goal.returns-clause-apart
returns-clause-apart c = if_ok_three c.finish.result _ _ _ _ c.finish.ensures.rows c.finish.ensures.valid
    c.finish.ensures.after (λ done rows valid after. c.in_ok-seats.ensures.apart done.ring valid rows after)

pub returns-clause-seeded : goal.returns-clause-seeded
returns-clause-seeded c = if_ok_one c.finish.result _ _ c.finish.ensures.by_name (λ done is. record {
  wanted = c.in_ok-seats.ensures.wanted;
  are = c.in_ok-seats.ensures.are;
  is = is ∙ ap (finished c.args.ring.now c.args.hour) c.in_ok-seats.ensures.by_name;
})

pub returns-clause-first : goal.returns-clause-first
returns-clause-first c = if_ok_one c.finish.result _ _ c.finish.ensures.by_name (λ done is.
    first_apart c.args.ring.now done.ring c.args.hour c.args.seed c.devices.ensures.valid
    (let opens = ap (count_by is_open) c.devices.ensures.value in let enough = c.if-open_count-from.false in
    omega (arith, opens, enough, c.open_count.ensures, c.from.ensures, c.get.ensures, c.replicas.ensures))
    (record {
      wanted = c.in_ok-seats.ensures.wanted;
      are = c.in_ok-seats.ensures.are;
      is = is ∙ ap (finished c.args.ring.now c.args.hour) c.in_ok-seats.ensures.by_name;
    }))
