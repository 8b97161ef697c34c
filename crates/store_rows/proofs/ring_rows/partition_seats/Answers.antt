use Rattle.std.proofs.Common.{◌≡◌, ◌<◌, ◌*◌, ℕ, ap, sym, ◌∙◌, arith, length}
use Rattle.ring_model.specs.Ring.{partition_count}
use Rattle.store_rows.proofs.Sameness.{within}
use Rattle.store_rows.proofs.Steps.{positive}
use Rattle.store_rows.proofs.ring_rows.partition_seats.Goals as goal

pub slice_bounds-result-end : goal.slice_bounds-result-end
slice_bounds-result-end c =
    let len : length c.seats-seats.result.now ≡ length c.args.ring.now.seats =
    ap length c.seats-seats.ensures.value in
    let some : 0 < length c.seats-seats.result.now =
    positive _ (sym c.is_empty.ensures ∙ c.if-is_empty.false) in
    let whole = within c.args.partition (partition_count c.args.ring.now) c.args.ring.now.replicas
    (length c.args.ring.now.seats) c.requires (c.seats-seats.ensures.valid.seats.whole
    (omega arith)) in
    let replicas : c.from-replicas.result ≡ c.args.ring.now.replicas =
    c.from-replicas.ensures ∙ (c.get.ensures.value ∙ c.replicas.ensures.value) in
    let same : c.args.partition * c.from-replicas.result ≡ c.args.partition *
    c.args.ring.now.replicas = ap (λ (r : ℕ). c.args.partition * r) replicas in
    omega arith
