use Rattle.std.proofs.Common.{◌≡◌, ◌^◌, ◌∙◌, ℕ, ap, refl, replicate, Some, [], arith}
use Rattle.std.proofs.Common.{rules}
use Rattle.ring_model.specs.Ring.{RingRecord}
use Rattle.ring_founding.specs.Founding.{IsFounded}
use Rattle.ring_founding.proofs.Founded.{has_devices, valid_founded}
use Rattle.ring_founding.proofs.founding.found_ring.Goals as goal

pub next_number-requires : goal.next_number-requires
next_number-requires c = rw c.devices-devices.ensures.value (has_devices c.args.snapshot.now
    c.devices-devices.ensures.valid)

pub unreachable-requires : goal.unreachable-requires
unreachable-requires c =
    let snapshot = c.args.snapshot.now in
    let devices : c.in_ok-to_vec.field-0.items ≡ snapshot.devices = search rules in
    let moved : c.in_ok-vec.field-0.items ≡ replicate (2 ^ snapshot.power) (Some c.args.terms.hour)
    = search rules in
    let ring : RingRecord = record {
      power = c.power.result;
      replicas = c.replicas.result;
      min_hours = c.args.terms.min_hours;
      next_id = c.next_number.result;
      version = c.version.result;
      devices = c.in_ok-to_vec.field-0.items;
      seats = c.in_ok-from_slice.field-0.items;
      moved = c.in_ok-vec.field-0.items;
      published = [];
    } in
    let is : IsFounded c.args.terms snapshot ring = record {
      power = c.power.ensures;
      replicas = c.replicas.ensures;
      version = c.version.ensures;
      devices = devices;
      seats = c.in_ok-from_slice.ensures.items ∙ c.seats.ensures.value;
      min_hours = refl;
      next_id = rw c.devices-devices.ensures.value at c.next_number.ensures;
      moved = moved;
      published = refl;
    } in
    let valid = valid_founded c.args.terms snapshot ring c.devices-devices.ensures.valid
    (omega arith) (omega arith) is in
    let bad = rw c.in-Err-Invalid.field-0-is at c.in-Err-Invalid.ensures.invalid in
    (bad.0 refl) (rw c.new.ensures.items valid)

pub returns-in-Ok : goal.returns-in-Ok
returns-in-Ok c = rw (c.in-Ok.ensures.built, c.new.ensures.items) record {
  power = c.power.ensures;
  replicas = c.replicas.ensures;
  version = c.version.ensures;
  devices = c.in_ok-to_vec.ensures.items_if_clones_equal (λ x y r. search rules)
      ∙ c.devices-devices.ensures.value;
  seats = c.in_ok-from_slice.ensures.items ∙ c.seats.ensures.value;
  min_hours = refl;
  next_id = rw c.devices-devices.ensures.value at c.next_number.ensures;
  moved = c.in_ok-vec.ensures.items_if_clones_equal (λ y r. search rules) ∙ ap (λ (n : ℕ). replicate n
      (Some c.args.terms.hour)) (c.partition_count.ensures.value ∙ ap (λ (p : ℕ). 2 ^ p)
      c.power-2.ensures);
  published = refl;
}
