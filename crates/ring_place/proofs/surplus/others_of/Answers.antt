use Rattle.std.proofs.Common.{◌≡◌, ◌∙◌, ◌<◌, ℕ, List, Option, ap, arith, length, set, take, None}
use Rattle.std.proofs.Math.Seq.{take-set-lt}
use Rattle.std.proofs.lemmas.List.{length-take}
use Rattle.ring_room.specs.Load.{seats_of}
use Rattle.ring_room.specs.Rows.{devices_on}
use Rattle.ring_place.proofs.surplus.others_of.Goals as goal

-- a copy without a seat is the partition without it
without : (row copy : List (Option ℕ)) (count replica : ℕ) → take count copy ≡ row →
    replica < length row → take count (set copy replica None) ≡ set row replica None
without row copy count replica is lt =
    let long = ap length is in
    let short = length-take count copy in
    let within : replica < count = omega (arith, long, short, lt) in
    take-set-lt count copy replica None within ∙ ap (λ r. set r replica None) is

pub returns-clause-by_name : goal.returns-clause-by_name
returns-clause-by_name c = c.places_on.ensures.by_name ∙ ap (λ r. seats_of (devices_on r))
    (without c.args.row.now c.row_copy-count.result.0 c.row_copy-count.result.1 c.args.replica
    c.row_copy-count.ensures.row c.requires.replica)
