use Rattle.std.proofs.Common.{◌≡◌, ◌*◌, ◌^◌, ℕ, None, length, map, ap, ◌∙◌}
use Rattle.std.specs.Prelude.{slice_get}
use Rattle.std.specs.List.{range_with_len}
use Rattle.std.proofs.lemmas.List.FromFn.{fill_by_all}
use Rattle.ring_model.specs.Ring.{RingRecord, partition_count}
use Rattle.ring_place.specs.Inner.Rows.{rows_in}
use Rattle.ring_place.proofs.Rows.SeatRows.{rows_of_ring}
use Rattle.ring_place.proofs.seats.Seats.with.Goals as goal

pub returns : goal.returns
returns c =
    let ring : RingRecord = record c.args.ring.now { seats = c.args.devices.now } in
    let items = c.in_ok-seats.seats.items in
    let n = c.from-replicas.result in
    let partitions : c.partition_count-partitions.result ≡ partition_count ring =
    c.partition_count-partitions.ensures.value ∙ ap (λ (n : ℕ). 2 ^ n) c.power.ensures.value in
    let replicas : n ≡ ring.replicas =
    c.from-replicas.ensures ∙ c.get.ensures.value ∙ c.replicas.ensures.value in
    let long : length items ≡ partition_count ring * ring.replicas =
    c.in_ok-seats.ensures.long ∙ ap (λ (k : ℕ). k * n) partitions ∙ ap (λ (k : ℕ). partition_count
    ring * k) replicas in
    let seats : items ≡ map (λ (place : ℕ). slice_get ring.seats place)
    (range_with_len 0 (partition_count ring * ring.replicas)) =
    fill_by_all (λ place. slice_get ring.seats place) items (partition_count ring * ring.replicas)
    None long
    (λ place lt. c.in_ok-seats.ensures.seats place) in
    record {
      rows = ap (λ (k : ℕ). rows_in items k n) partitions ∙ ap (λ (k : ℕ). rows_in items (partition_count
          ring) k) replicas ∙ rows_of_ring ring items seats;
    }
