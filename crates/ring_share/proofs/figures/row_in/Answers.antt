use Rattle.std.proofs.Common.{arith}
use Rattle.std.proofs.lemmas.Grind.{common_steps}
use Rattle.std.proofs.Common.{◌+◌, ◌*◌, ℕ, List, Some, ap, map, sym, ◌∙◌}
use Rattle.std.specs.Prelude.{slice_range}
use Rattle.ring_share.proofs.Assigned.{all_there, row_is}
use Rattle.ring_share.proofs.figures.row_in.Goals as goal

pub returns-clause-row : goal.returns-clause-row
returns-clause-row c =
    let p = c.args.partition in
    ap (λ (seats : List ℕ). map Some (slice_range seats (p * c.from-replicas.result)
    (p * c.from-replicas.result + c.from-replicas.result))) c.seats.ensures.value
    ∙ ap (λ (n : ℕ). map Some (slice_range c.args.ring.now.seats (p * n) (p * n + n)))
    (c.from-replicas.ensures ∙ c.get.ensures.value ∙ c.replicas.ensures.value)
    ∙ sym (row_is c.args.ring.now p (all_there c.args.ring.now c.seats.ensures.valid
    c.requires.assigned) c.requires.partition)

pub returns-clause-known : goal.returns-clause-known
returns-clause-known c = grind (arith, common_steps)
