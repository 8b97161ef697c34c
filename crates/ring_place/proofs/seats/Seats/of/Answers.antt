use Rattle.std.proofs.Common.{◌≡◌, ◌*◌, ◌≤◌, IfOk, Ok, Err, Result, ap, arith, length, ◌∙◌, inl, inr}
use Rattle.std.proofs.lemmas.Bool.Decides.{leb_tells}
use Rattle.ring_model.specs.Ring.{RingRecord, partition_count}
use Rattle.ring_model.specs.Valid.{IsValid}
use Rattle.ring_share.specs.Crowd.{rows_of}
use Rattle.ring_place.proofs.seats.Seats.of.Goals as goal

seats_fit : (ring : RingRecord) → IsValid ring → length ring.seats ≤ partition_count ring * ring.replicas
seats_fit ring valid = elim (leb_tells 1 (length ring.seats)) [
  | inl some ↦ (let whole = valid.seats.whole (let least = some.1 in omega (arith, least)) in omega (arith, whole))
  | inr none ↦ (let few = none.1 in omega (arith, few))
]

pub with-requires : goal.with-requires
with-requires c = record {
  few = (let same = ap length c.seats.ensures.value in
      let fit = seats_fit c.args.ring.now c.seats.ensures.valid in omega (arith, same, fit));
}

if_ok_one : {T E : Type 0} (r : Result T E) (P S : T → Type 0) → IfOk r P → ((x : T) → P x → S x) → IfOk r S
if_ok_one (Ok x) P S p all = all x p
if_ok_one (Err e) P S p all = tt

pub returns-clause-rows : goal.returns-clause-rows
returns-clause-rows c = if_ok_one c.with.result _ (λ seats. seats ≡ rows_of c.args.ring.now)
    c.with.ensures.rows
    (λ seats is. is ∙ ap (λ ss. rows_of (record c.args.ring.now { seats = ss })) c.seats.ensures.value)
