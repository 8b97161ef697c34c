-- The snapshot of a valid ring is valid.
use Rattle.std.proofs.Common.{◌≡◌, ℕ, ◌<◌, ◌≤◌, List, true, arith}
use Rattle.ring_words.specs.Limits.{most_ids}
use Rattle.std.specs.Prelude.{IsTrue}
use Rattle.std.proofs.lemmas.Bool.{ltb-true}
use Rattle.std.proofs.lemmas.List.Elements.{All-weaker}
use Rattle.ring_model.specs.Ring.{RingRecord, is_assigned}
use Rattle.ring_words.specs.Texts.{is_label}
use Rattle.ring_model.specs.Valid.{AreDevices, IsValid}
use Rattle.ring_words.specs.declared.device.Device.{Device}
use Rattle.ring_text.specs.Snapshot.{IsValidSnapshot, snapshot_of}

-- devices whose next number is at most a greater one
pub devices_below : (next greater : ℕ) (devices : List Device) → next ≤ greater →
    AreDevices next devices → AreDevices greater devices
devices_below next greater devices le are = record {
  count = are.count;
  below = All-weaker (λ (device : Device). device.id < next) (λ (device : Device). device.id <
      greater) (λ device h. omega arith) devices are.below;
  rise = are.rise;
  apart = are.apart;
  proper = are.proper;
}

pub valid_of_ring : (name : List ℕ) (ring : RingRecord) → IsValid ring → is_assigned ring ≡ true →
    IsTrue (is_label name) → IsValidSnapshot (snapshot_of name ring)
valid_of_ring name ring valid assigned label = record {
  name = label;
  version = omega (arith, valid.version);
  power = valid.power;
  replicas = valid.replicas;
  devices = devices_below ring.next_id most_ids ring.devices valid.next_id valid.devices;
  taken = valid.seats.whole (ltb-true _ _ assigned);
  seats = valid.seats;
}
